-- The next entry may be claimed.
use Rattle.runner_samples.specs.Runs.{IsStanding}
use Rattle.tests_runner.proofs.runs.run.Given as goal

abbrev pub invariant-loop-word : goal.invariant-loop-word
invariant-loop-word g l = IsStanding l.world.config l.table (g.D.Spool.seen l.spool)
