-- One result more.
use Rattle.std.proofs.Common.{◌∙◌, ◌+◌, ap, arith, length, set, take}
use Rattle.std.proofs.lemmas.List.{length-set}
use Rattle.queue_run.proofs.PutLemmas.{filled_more}
use Rattle.queue_run.proofs.results.fill_ended.Goals as goal

pub loop-place-preserved : goal.loop-place-preserved
loop-place-preserved c =
    let i = c.loop-place.place in
    let xs = c.loop-place.outcomes.results in
    let below = c.loop-place-test.true in
    let size = c.len-place-end.ensures in
    let long = c.loop-place.invariant.0 in (
      ap length c.set.ensures ∙ length-set xs i c.end.result ∙ long,
      λ places same. ap (take (i + 1)) c.set.ensures ∙ ap (λ q. take (i + 1) (set xs i q)) c.end.ensures
          ∙ filled_more _ xs places i (omega (arith, below, size, long)) (long ∙ same) (c.loop-place.invariant.1 places same),
    )
