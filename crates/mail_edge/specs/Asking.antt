-- What a call that reads files leaves of them (own).
use Rattle.std.specs.Prelude.{◌≡◌, ◌≤◌, Bool, true, false}
use Rattle.mail_base.specs.Histories.{Rose}
use Rattle.mail_edge.specs.Seen.{FilesSeen}

-- files stay as they are told, and the count of their faults rose, or stood at its end, exactly
-- where they failed
pub record Asks (before after : FilesSeen) (failed : Bool) : Type 0 where
  pub fixed : after.map ≡ before.map
  pub later : before.faults ≤ after.faults
  pub rose : failed ≡ true → Rose before.faults after.faults
  pub calm : failed ≡ false → after.faults ≡ before.faults
