-- Who changes an entry: the one who holds it (own).
use Rattle.std.specs.Prelude.{◌≡◌, ◌≢◌, ℕ, List, [], ◌∷◌, ◌++◌}
use Rattle.queue_run.specs.declared.batch.Routed.{Routed}
use Rattle.queue_run.specs.Deeds.{Claims, Deed, Frees}
use Rattle.mail_core.specs.Effects.{Effect, Does}

-- a deed neither claims the entry of that id nor lets it go
abbrev pub IsKeeping : ℕ → Deed → Type 0
IsKeeping id (Claims other rows) = other ≢ id
IsKeeping id (Frees other) = other ≢ id
IsKeeping id deed = Unit {0}

abbrev pub Keeps : ℕ → Effect → Type 0
Keeps id (Does deed) = IsKeeping id deed
Keeps id effect = Unit {0}

abbrev pub AreKeeping : ℕ → List Effect → Type 0
AreKeeping id [] = Unit {0}
AreKeeping id (effect ∷ effects) = Keeps id effect × AreKeeping id effects

-- the entry was claimed, and since then neither claimed again nor let go
pub record IsHolding (done : List Effect) (id : ℕ) : Type 0 where
  pub before : List Effect
  pub rows : List Routed
  pub since : List Effect
  pub whole : done ≡ before ++ Does (Claims id rows) ∷ since
  pub keeps : AreKeeping id since
