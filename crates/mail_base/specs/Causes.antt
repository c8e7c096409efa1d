-- The cause of an answer of a device that also takes memory (own).
use Rattle.std.specs.Prelude.{ℕ, ◌≤◌, Bool, true, false, Result, Ok, Err, IsErrOf}
use Rattle.mail_base.specs.Histories.{Rose}
use Rattle.mail_base.specs.declared.fault.EdgeFault.{EdgeFault}
use Rattle.mail_base.specs.declared.fault.EdgeFault.TheVariants.{Failed, NoMemory}

-- the device failed; want of memory is no failure of the device
abbrev pub has_failed : {T : Type 0} → Result T EdgeFault → Bool
has_failed (Ok x) = false
has_failed (Err Failed) = true
has_failed (Err NoMemory) = false

-- a count never falls, and has risen where the device failed; want of memory needs no rise
pub record HasEdgeCause {T : Type 0} (before now : ℕ) (result : Result T EdgeFault) : Type 0 where
  pub later : before ≤ now
  pub failed : IsErrOf result Failed → Rose before now
