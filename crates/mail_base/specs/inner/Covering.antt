-- The first slot from a place on that wants no other places than a mask has.
use Rattle.std.specs.Prelude.{◌≡◌, ℕ, ◌≤◌, ◌<◌, List, Some, true, false, slice_get}
use Rattle.mail_base.specs.Masks.{covers}
use Rattle.mail_base.specs.declared.rule.Slot.{Slot}

-- each slot from a place up to another wants what the mask hasn't
abbrev pub AreUncovered : ℕ → List Slot → ℕ → ℕ → Type 0
AreUncovered mask slots from end = (k : ℕ) (slot : Slot) → from ≤ k → k < end
    → slice_get slots k ≡ Some slot → covers mask slot.wanted ≡ false

pub record IsFirstCovered (mask : ℕ) (slots : List Slot) (from place : ℕ) : Type 0 where
  pub above : from ≤ place
  pub slot : Slot
  pub at : slice_get slots place ≡ Some slot
  pub covered : covers mask slot.wanted ≡ true
  pub before : AreUncovered mask slots from place
