-- The next batch is the last one that is kept.
use Rattle.std.proofs.Common.{◌≡◌, ◌-◌, length, subst}
use Rattle.std.specs.Prelude.{get_or}
use Rattle.queue_run.proofs.AimLemmas.{last_is}
use Rattle.queue_run.proofs.runner.Runner.next.Goals as goal

pub returns : goal.returns
returns c = λ batch first.
    last_is c.args.self.now.rest.items c.in-Some.batch.now batch c.requires.some
    (subst (λ xs. c.in-Some.batch.now ≡ get_or xs (length xs - 1) c.in-Some.batch.now) c.deref.ensures.value c.in-Some.ensures.item.1) first
