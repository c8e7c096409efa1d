-- What calls that only read come to (own).
use Rattle.std.specs.Prelude.{◌≡◌, ◌⊎◌, ◌≤◌, Result, IsErrOf}
use Rattle.mail_base.specs.Histories.{Rose}
use Rattle.mail_base.specs.declared.fault.StoreFault.{StoreFault}
use Rattle.mail_base.specs.declared.fault.StoreFault.TheVariants.{SpoolFault, IdsSpent}
use Rattle.spool_disk.specs.Spooled.{Spooled, Reads}

-- nothing has changed; the count of faults has risen where the spool's failure is told, and stands
-- still else
pub record Looks {T : Type 0} (old new : Spooled) (result : Result T StoreFault) : Type 0 where
  pub reads : Reads old new
  pub later : old.faults ≤ new.faults
  pub never : IsErrOf result IdsSpent → ⊥
  pub cause : IsErrOf result SpoolFault → Rose old.faults new.faults
  pub calm : IsErrOf result SpoolFault ⊎ (new.faults ≡ old.faults)
