-- By where the row goes.
use Rattle.std.proofs.Common.{sym, subst, ◌∙◌}
use Rattle.queue_run.specs.inner.Courses.{IsPlaceFor}
use Rattle.queue_run.proofs.SplitLemmas.{alone_full}
use Rattle.queue_run.proofs.splitting.Splitting.place_for.Goals as goal

pub returns-in-Some : goal.returns-in-Some
returns-in-Some c = subst (λ q. IsPlaceFor c.args.config.now q c.args.self.now.batches.items c.place_of.result) (sym c.in-Some.is ∙ c.in_ok-course.ensures) c.place_of.ensures

pub returns-in-None : goal.returns-in-None
returns-in-None c = alone_full c.args.config.now _ c.args.self.now.batches.items (sym c.in_ok-course.ensures ∙ c.in-None.is)
