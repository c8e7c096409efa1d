-- What stands before and behind the steps of a runner (own).
use Rattle.std.specs.Prelude.{◌≡◌, true}
use Rattle.mail_base.specs.declared.config.Config.{Config}
use Rattle.spawn_edge.specs.Spawned.{Spawned}
use Rattle.spool_disk.specs.Spooled.{Spooled}
use Rattle.spool_store.specs.Stores.{IsAtRest}
use Rattle.queue_table.specs.Calls.{store}
use Rattle.queue_table.specs.declared.table.Table.{Table as Kept}
use Rattle.queue_run.specs.declared.runner.Did.{Did}
use Rattle.queue_run.specs.declared.runner.Runner.{Runner}
use Rattle.queue_run.specs.Ready.{IsReady}
use Rattle.queue_run.specs.Working.{HasChild, IsWhole, holds_on}

-- an entry of a table may be claimed
pub record IsStanding (config : Config) (kept : Kept) (spooled : Spooled) : Type 0 where
  pub whole : IsWhole config kept
  pub rest : IsAtRest (store kept) spooled

-- its runner may take a step
pub record IsUnderWay (config : Config) (kept : Kept) (spooled : Spooled) (spawned : Spawned)
    (r : Runner) : Type 0 where
  pub stands : IsStanding config kept spooled
  pub ready : IsReady kept r
  pub child : HasChild spawned r

-- behind a step that answers so the table stands, and the runner goes on unless it is free
pub record GoesOn (config : Config) (kept : Kept) (spooled : Spooled) (spawned : Spawned)
    (r : Runner) (did : Did) : Type 0 where
  pub stands : IsStanding config kept spooled
  pub on : holds_on did ≡ true → IsUnderWay config kept spooled spawned r
