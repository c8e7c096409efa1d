-- The runner may take a step.
use Rattle.spawn_edge.specs.Lives.{script_spawned}
use Rattle.runner_samples.specs.Runs.{IsUnderWay}
use Rattle.bench.specs.Untold.{untold}
use Rattle.bench.proofs.runner.step_often.Given as goal

abbrev pub invariant-loop-number : goal.invariant-loop-number
invariant-loop-number l = IsUnderWay l.world.config l.table (untold l.spool.faults) (script_spawned l.spawner.told l.spawner.missed l.spawner.calls.faults) l.runner
