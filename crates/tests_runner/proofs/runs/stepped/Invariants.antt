-- The runner may take a step, and what draws reads the same files.
use Rattle.std.specs.Prelude.{◌≡◌}
use Rattle.spawn_edge.specs.Lives.{script_spawned}
use Rattle.runner_samples.specs.Runs.{IsUnderWay}
use Rattle.tests_runner.proofs.runs.stepped.Given as goal

abbrev pub invariant-loop : goal.invariant-loop
invariant-loop g l = IsUnderWay l.world.config l.table (g.D.Spool.seen l.spool) (script_spawned l.spawner.told l.spawner.missed l.spawner.calls.faults) l.runner
    × (g.W.Draws.fixed l.draws ≡ g.W.Draws.fixed l.fn.draws)
