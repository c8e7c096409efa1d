use Rattle.std.proofs.Common.{sym, ◌∙◌, ap, map}
use Rattle.queue_plan.specs.inner.Targets.{target_of}
use Rattle.queue_plan.proofs.RowLemmas.{kept_one, met_one}
use Rattle.queue_plan.proofs.rows.firsts_of.Goals as goal

pub loop-row-preserved : goal.loop-row-preserved
loop-row-preserved c =
    let l = c.loop-row in
    let row = c.in-Some.row in
    record {
      kept = c.in_ok-keep.ensures.kept ∙ kept_one l.yielded l.kept l.met.keys row l.invariant.kept l.invariant.met;
      met = c.in_ok-keep.ensures.met ∙ met_one l.kept l.met.keys row l.invariant.met ∙ ap (map target_of) (sym c.in_ok-keep.ensures.kept);
    }
