-- Maps that are alike at the control files of some ids (own).
use Rattle.std.specs.Prelude.{◌≡◌, ℕ, ◌<◌, List, Some}
use Rattle.spool_disk.specs.Disk.{FileMap, bytes_at}
use Rattle.mail_base.specs.declared.control.Control.{Control}
use Rattle.mail_base.specs.declared.control.Parent.{Parent}
use Rattle.mail_base.specs.States.{NeedsBody}
use Rattle.spool_store.specs.Queue.{Spot, spot_place, body_place, IsSpot, IsRead}

-- the control files of the kept ids are the same, and the bodies that they want, and what they go
-- up to is kept
pub record AreAlike (dirs : List (List ℕ)) (Kept : ℕ → Type 0) (f g : FileMap) : Type 0 where
  pub controls : (s : Spot) → IsSpot dirs s → Kept s.id
      → bytes_at g (spot_place s) ≡ bytes_at f (spot_place s)
  pub bodies : (s : Spot) (c : Control) → Kept s.id → IsRead dirs f s c → NeedsBody c
      → bytes_at g (body_place s) ≡ bytes_at f (body_place s)
  pub up : (s : Spot) (c : Control) (p : Parent) → Kept s.id → IsRead dirs f s c → c.parent ≡ Some p
      → p.id < s.id → Kept p.id
