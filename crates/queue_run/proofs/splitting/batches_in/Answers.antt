-- A row more.
use Rattle.std.proofs.Common.{◌∙◌, ap, sym}
use Rattle.queue_run.specs.Batches.{joined}
use Rattle.queue_run.proofs.SplitLemmas.{batches_more}
use Rattle.queue_run.proofs.splitting.batches_in.Goals as goal

pub loop-row-preserved : goal.loop-row-preserved
loop-row-preserved c = record {
  batches = c.in_ok-join.ensures.is ∙ ap (joined c.args.config.now c.in-Some.row) c.loop-row.invariant.batches ∙ sym (batches_more c.args.config.now c.loop-row.yielded c.in-Some.row);
  indexed = c.in_ok-join.ensures.indexed;
}
