use Rattle.std.proofs.Common.{◌≡◌, ◌∙◌, length, ap, arith}
use Rattle.std.proofs.lemmas.Result.{err_from_is_err_and}
use Rattle.cf_reader.specs.Configuration.{configuration, read_lines}
use Rattle.cf_reader.specs.LogicalLines.{logical_lines}
use Rattle.cf_reader.specs.inner.Scans.{left}
use Rattle.mail_edge.proofs.AskLemmas.{asks_none, asks_join}
use Rattle.cf_reader.proofs.ReadingLemmas.{found_in, if_all, read_stops, read_on}
use Rattle.cf_reader.proofs.ScanLemmas.{lines_read}
use Rattle.cf_reader.proofs.reader.read.Goals as goal

pub loop-state-init : goal.loop-state-init
loop-state-init g c =
    let lines : left 0 c.bytes-rest.result.now ≡ logical_lines c.args.text.now = ap (left 0) c.bytes-rest.ensures ∙ lines_read c.args.text.now in record {
      rest = if_all {P = λ map. read_lines map c.in_ok-state.state (left 0 c.bytes-rest.result.now) ≡ configuration map c.args.text.now} (g.F.Files.seen c.args.files.now).map (λ map i. read_lines map (c.in_ok-state.ensures i) (lines i));
      few = omega (arith, ap length c.bytes-rest.ensures);
      asks = asks_none (g.F.Files.seen c.args.files.now);
    }

pub returns-in_err-step-clause-told : goal.returns-in_err-step-clause-told
returns-in_err-step-clause-told g c =
    let p = err_from_is_err_and c.from_residual-in_err-step.result c.from_residual-in_err-step.ensures.1 in
    let found = found_in _ c.in_ok-line.field-0 _ c.in-Some.is c.in_ok-line.ensures.some in
    rw (p.1, p.2) (read_stops (g.F.Files.seen c.args.files.now) (g.F.Files.seen c.loop-state.files) c.loop-state.state c.step.new.state _ _ c.in-Some.line c.in_err-step.field-0.0 (λ map. configuration map c.args.text.now)
    found.0 c.loop-state.invariant.asks c.loop-state.invariant.rest c.in_err-step.ensures.told)

pub loop-state-preserved : goal.loop-state-preserved
loop-state-preserved g c =
    let found = found_in _ c.in_ok-line.field-0 _ c.in-Some.is c.in_ok-line.ensures.some in
    record {
      rest = read_on (g.F.Files.seen c.args.files.now) (g.F.Files.seen c.loop-state.files) c.loop-state.state c.step.new.state _ _ c.in-Some.line (λ map. configuration map c.args.text.now) found.0 c.loop-state.invariant.asks c.loop-state.invariant.rest
          c.in_ok-step.ensures.told;
      few = omega (arith, found.1, c.loop-state.invariant.few);
      asks = asks_join (g.F.Files.seen c.args.files.now) (g.F.Files.seen c.loop-state.files) (g.F.Files.seen c.step.new.files) _ c.loop-state.invariant.asks c.in_ok-step.ensures.asks;
    }
