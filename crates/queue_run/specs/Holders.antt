-- Who holds an entry (Sendmail Installation and Operation Guide, "Queue Groups", Runners).
use Rattle.std.specs.Prelude.{ℕ, List, Option, reverse}
use Rattle.std.specs.Option.{option_map}
use Rattle.queue_run.specs.declared.batch.Batch.{Batch}
use Rattle.queue_run.specs.declared.runner.Runner.{Runner}
use Rattle.queue_run.specs.declared.runner.Running.{Running}

-- a child that delivers the rows at these places
pub record Attempt : Type 0 where
  pub child : ℕ
  pub places : List ℕ

-- the holder of an entry: the batches that weren't tried yet, and the child that delivers another
pub record Holder : Type 0 where
  pub id : ℕ
  pub rest : List Batch
  pub running : Option Attempt

abbrev pub attempt_of : Running → Attempt
attempt_of r = record { child = r.child; places = r.reserved.rows }

-- the holder that a runner is
abbrev pub holder_of : Runner → Holder
holder_of r =
    record { id = r.id; rest = reverse r.rest.items; running = option_map attempt_of r.running }
