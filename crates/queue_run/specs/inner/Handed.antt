-- How the making of a letter goes. It need not be believed: only private contracts cite it.
use Rattle.std.specs.Prelude.{◌≡◌, ℕ, Err, Ok, Result}
use Rattle.mail_base.specs.Histories.{Rose}
use Rattle.mail_base.specs.declared.fault.StoreFault.{StoreFault}
use Rattle.mail_base.specs.declared.fault.StoreFault.TheVariants as store
use Rattle.queue_run.specs.declared.letter.Letter.{Letter}
use Rattle.queue_run.specs.declared.runner.RunStop.{RunStop}
use Rattle.queue_run.specs.declared.runner.RunStop.TheVariants as stop

abbrev pub stop_of : StoreFault → RunStop
stop_of store.SpoolFault = stop.SpoolFault
stop_of store.IdsSpent = stop.IdsSpent
stop_of store.NoMemory = stop.NoMemory

-- it fails where the spool did, or for want of memory
abbrev pub HasHandFault : ℕ → ℕ → Result Letter RunStop → Type 0
HasHandFault before now (Ok letter) = now ≡ before
HasHandFault before now (Err stop.SpoolFault) = Rose before now
HasHandFault before now (Err stop.NoMemory) = now ≡ before
HasHandFault before now (Err stop.IdsSpent) = ⊥
HasHandFault before now (Err stop.FilesFault) = ⊥
