use Rattle.std.proofs.Common.{◌≡◌, ◌++◌, ℕ, List, [], length, take, refl, ◌∙◌, inr, arith}
use Rattle.sendmail_run.specs.Devices.{streams}
use Rattle.sendmail_run.specs.Printing.{basis}
use Rattle.sendmail_run.proofs.TestLemmas.{at_start, at_taken, at_warning_fault, none_taken, at_read_fault, at_large, at_same, below, left_none, same_count, taken_few, taken_length, rises_since}
use Rattle.sendmail_run.proofs.address_test.answer_all.Goals as goal

pub returns-in_default-clause-tests : goal.returns-in_default-clause-tests
returns-in_default-clause-tests g c = none_taken (basis c.args.config.now c.args.maps.now) (g.I.Source.seen c.args.input.now) (g.O.Sink.seen c.args.output.now)

pub returns-in_default-give-clause-tests : goal.returns-in_default-give-clause-tests
returns-in_default-give-clause-tests g c =
    at_warning_fault (basis c.args.config.now c.args.maps.now) (g.I.Source.seen c.args.input.now) (g.O.Sink.seen c.args.output.now) (g.O.Sink.seen c.give.new.output) c.in-Ok.warnings c.in-Ok.ensures c.in_default-give.ensures.part c.in_default-give.ensures.cause.failed

pub loop-total-init : goal.loop-total-init
loop-total-init g c = record {
  at = (
    [],
    refl,
    at_start (basis c.args.config.now c.args.maps.now) (g.I.Source.seen c.args.input.now) (g.O.Sink.seen c.args.output.now) (g.O.Sink.seen c.give.new.output) c.new-partial.result c.in-Ok.warnings c.in-Ok.ensures c.in-Ok-give.ensures.written c.in-Ok-give.ensures.cause.later c.new-partial.ensures,
  );
  most = omega arith;
  input = same_count (g.I.Source.seen c.args.input.now).faults;
  output = c.in-Ok-give.ensures.cause.later;
  read = refl;
  written = c.in-Ok-give.ensures.calm;
}

pub loop-total-preserved : goal.loop-total-preserved
loop-total-preserved g c =
    let so = c.loop-total.invariant.at in
    let bytes : List ℕ = take c.in-Ok-take_most.count c.take_most.new.buffer in
    let taken = at_taken (basis c.args.config.now c.args.maps.now) c.loop-total.config (streams (g.I.Source.seen c.args.input.now) (g.O.Sink.seen c.args.output.now)) (g.I.Source.seen c.loop-total.input) (g.I.Source.seen c.take_most.new.input) (g.O.Sink.seen c.loop-total.output)
    so.0 so.0 bytes c.loop-total.partial so.2 c.in-Ok-take_most.ensures.taken c.in-Ok-take_most.ensures.cause.later
    (taken_few so.0 c.take_most.new.buffer c.loop-total.total c.in-Ok-take_most.count so.1 c.in-Ok-take_most.ensures.bound (omega (arith, c.in-Ok-take_most.ensures.most, c.loop-total-test.true))) in record {
      at = (
        so.0 ++ bytes,
        taken_length so.0 c.take_most.new.buffer c.loop-total.total c.in-Ok-take_most.count so.1 c.in-Ok-take_most.ensures.bound,
        c.in-On.ensures.went c.args.config.now (streams (g.I.Source.seen c.args.input.now) (g.O.Sink.seen c.args.output.now)) (g.I.Source.seen c.take_most.new.input) so.0 taken,
      );
      most = omega (arith, c.in-Ok-take_most.ensures.most, c.loop-total-test.true);
      input = omega (arith, c.in-Ok-take_most.ensures.cause.later, c.loop-total.invariant.input);
      output = omega (arith, c.answer_piece.ensures.later, c.loop-total.invariant.output);
      read = c.in-Ok-take_most.ensures.calm ∙ c.loop-total.invariant.read;
      written = c.in-On.ensures.rises ∙ c.loop-total.invariant.written;
    }

pub returns-in-Err-clause-tests : goal.returns-in-Err-clause-tests
returns-in-Err-clause-tests g c =
    let so = c.loop-total.invariant.at in
    at_read_fault (basis c.args.config.now c.args.maps.now) c.loop-total.config (streams (g.I.Source.seen c.args.input.now) (g.O.Sink.seen c.args.output.now)) (g.I.Source.seen c.loop-total.input) (g.I.Source.seen c.take_most.new.input) (g.O.Sink.seen c.loop-total.output)
    so.0 c.loop-total.partial so.2 (below so.0 c.loop-total.total so.1 (omega (arith, c.loop-total-test.true))) c.in-Err.ensures.kept c.in-Err.ensures.cause.failed

pub returns-then-count-eq0-clause-tests : goal.returns-then-count-eq0-clause-tests
returns-then-count-eq0-clause-tests g c =
    let so = c.loop-total.invariant.at in
    c.end.ensures.tests c.args.config.now (streams (g.I.Source.seen c.args.input.now) (g.O.Sink.seen c.args.output.now)) (g.I.Source.seen c.take_most.new.input) so.0
    (left_none (g.I.Source.seen c.loop-total.input).left (g.I.Source.seen c.take_most.new.input).left c.take_most.new.buffer c.in-Ok-take_most.count c.in-Ok-take_most.ensures.taken c.in-Ok-take_most.ensures.end c.if-count-eq0.true)
    (below so.0 c.loop-total.total so.1 (omega (arith, c.loop-total-test.true)))
    (at_same (basis c.args.config.now c.args.maps.now) c.loop-total.config (streams (g.I.Source.seen c.args.input.now) (g.O.Sink.seen c.args.output.now)) (g.I.Source.seen c.loop-total.input) (g.I.Source.seen c.take_most.new.input) (g.O.Sink.seen c.loop-total.output)
    so.0 c.take_most.new.buffer c.in-Ok-take_most.count c.loop-total.partial so.2 c.in-Ok-take_most.ensures.taken c.if-count-eq0.true c.in-Ok-take_most.ensures.cause.later)

pub returns-in-Ended-clause-tests : goal.returns-in-Ended-clause-tests
returns-in-Ended-clause-tests g c =
    let so = c.loop-total.invariant.at in
    let bytes : List ℕ = take c.in-Ok-take_most.count c.take_most.new.buffer in
    let taken = at_taken (basis c.args.config.now c.args.maps.now) c.loop-total.config (streams (g.I.Source.seen c.args.input.now) (g.O.Sink.seen c.args.output.now)) (g.I.Source.seen c.loop-total.input) (g.I.Source.seen c.take_most.new.input) (g.O.Sink.seen c.loop-total.output)
    so.0 so.0 bytes c.loop-total.partial so.2 c.in-Ok-take_most.ensures.taken c.in-Ok-take_most.ensures.cause.later
    (taken_few so.0 c.take_most.new.buffer c.loop-total.total c.in-Ok-take_most.count so.1 c.in-Ok-take_most.ensures.bound (omega (arith, c.in-Ok-take_most.ensures.most, c.loop-total-test.true))) in
    c.in-Ended.ensures.went c.args.config.now (streams (g.I.Source.seen c.args.input.now) (g.O.Sink.seen c.args.output.now)) (g.I.Source.seen c.take_most.new.input) so.0 taken

pub returns-clause-tests : goal.returns-clause-tests
returns-clause-tests g c =
    let so = c.loop-total.invariant.at in
    let large : length so.0 ≡ 4294967296 = omega (arith, so.1, c.loop-total.invariant.most, c.loop-total-test.false) in
    at_large (basis c.args.config.now c.args.maps.now) c.loop-total.config (streams (g.I.Source.seen c.args.input.now) (g.O.Sink.seen c.args.output.now)) (g.I.Source.seen c.loop-total.input) (g.O.Sink.seen c.loop-total.output) so.0 c.loop-total.partial so.2 large

pub returns-in-Err-clause-written : goal.returns-in-Err-clause-written
returns-in-Err-clause-written g c = inr c.loop-total.invariant.written

pub returns-then-count-eq0-clause-read : goal.returns-then-count-eq0-clause-read
returns-then-count-eq0-clause-read g c = inr (c.in-Ok-take_most.ensures.calm ∙ c.loop-total.invariant.read)

pub returns-then-count-eq0-clause-written : goal.returns-then-count-eq0-clause-written
returns-then-count-eq0-clause-written g c = rises_since _ _ _ _ _ c.loop-total.invariant.written c.end.ensures.rises

pub returns-in-Ended-clause-read : goal.returns-in-Ended-clause-read
returns-in-Ended-clause-read g c = inr (c.in-Ok-take_most.ensures.calm ∙ c.loop-total.invariant.read)

pub returns-in-Ended-clause-written : goal.returns-in-Ended-clause-written
returns-in-Ended-clause-written g c = rises_since _ _ _ _ _ c.loop-total.invariant.written c.in-Ended.ensures.rises

pub returns-clause-read : goal.returns-clause-read
returns-clause-read g c = inr c.loop-total.invariant.read

pub returns-clause-written : goal.returns-clause-written
returns-clause-written g c = inr c.loop-total.invariant.written
