-- Tables over a spool that tells nothing.
use Rattle.std.proofs.Common.{None, Result, Ok, Err}
use Rattle.std.specs.Prelude.{IfOk}
use Rattle.mail_base.specs.declared.config.Config.{Config}
use Rattle.mail_base.specs.declared.fault.StoreFault.{StoreFault}
use Rattle.spool_disk.specs.Spooled.{Spooled}
use Rattle.queue_table.specs.declared.table.Table.{Table}
use Rattle.queue_run.specs.Working.{IsWhole}
use Rattle.runner_samples.specs.Runs.{IsStanding}
use Rattle.table_samples.specs.Samples.{IsReady}

-- a table that stands is whole
pub whole_of : (config : Config) (spooled : Spooled) (result : Result Table StoreFault) → IfOk result (λ table. IsStanding config table spooled) → IfOk result (IsWhole config)
whole_of config spooled (Ok table) s = s.whole
whole_of config spooled (Err e) s = tt

-- and may be changed
pub ready_of : (config : Config) (table : Table) → IsWhole config table → IsReady None table
ready_of config table w = record { agrees = tt; dirs = w.groups }
