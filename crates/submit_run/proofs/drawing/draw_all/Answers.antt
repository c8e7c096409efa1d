-- What completes the rest completes the whole.
use Rattle.std.proofs.Common.{Option, Err, Ok, false, subst}
use Rattle.std.proofs.lemmas.Result.{err_from_is_err_and}
use Rattle.mail_edge.proofs.AskLemmas.{asks_join}
use Rattle.mail_edge.specs.Seen.{FileMap}
use Rattle.submit_run.specs.Rows.{DrawsOne}
use Rattle.submit_run.specs.inner.Steps.{Gathers}
use Rattle.submit_run.proofs.DrawingLemmas.{all_drawn, none_left, stopped, went_on}
use Rattle.submit_run.proofs.drawing.draw_all.Goals as goal

pub returns-in_err-draw_one-clause-draws : goal.returns-in_err-draw_one-clause-draws
returns-in_err-draw_one-clause-draws g c =
    let a = c.args in
    let i = c.recipients.invariant in
    let d = c.index-recipients-place.result in
    let p = err_from_is_err_and c.from_residual.result c.from_residual.ensures.1 in
    rw (p.1, p.2) (stopped a.grounds.now (g.F.Files.seen a.files.now).map a.sender.now a.recipients.now (Unit {0}) c.recipients.place c.recipients.rows c.draw_one.new.rows d c.in_err-draw_one.field-0.0 c.recipients-test.true c.index-recipients-place.is i.so_far
    (subst (λ (m : Option FileMap). Gathers {T = Unit {0}} c.recipients.place (DrawsOne a.grounds.now m a.sender.now c.recipients.place c.recipients.rows d) (Err c.in_err-draw_one.field-0.0) c.draw_one.new.rows) i.asks.fixed c.in_err-draw_one.ensures.draws))

pub recipients-preserved : goal.recipients-preserved
recipients-preserved g c =
    let a = c.args in
    let i = c.recipients.invariant in
    let d = c.index-recipients-place.result in
    record {
      so_far = went_on a.grounds.now (g.F.Files.seen a.files.now).map a.sender.now a.recipients.now c.recipients.place c.recipients.rows c.draw_one.new.rows d c.recipients-test.true c.index-recipients-place.is i.so_far
          (subst (λ (m : Option FileMap). DrawsOne a.grounds.now m a.sender.now c.recipients.place c.recipients.rows d (Ok c.draw_one.new.rows)) i.asks.fixed c.in_ok-draw_one.ensures.draws);
      form = c.in_ok-draw_one.ensures.form i.form;
      asks = asks_join (g.F.Files.seen a.files.now) (g.F.Files.seen c.recipients.files) (g.F.Files.seen c.draw_one.new.files) false i.asks c.in_ok-draw_one.ensures.asks;
    }

pub returns-clause-draws : goal.returns-clause-draws
returns-clause-draws g c =
    let a = c.args in
    all_drawn a.grounds.now (g.F.Files.seen a.files.now).map a.sender.now a.recipients.now c.recipients.place c.recipients.rows
    (none_left a.recipients.now c.recipients.place c.recipients-test.false) c.recipients.invariant.so_far
