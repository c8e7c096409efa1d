-- What a call takes from a source, and what it leaves in a sink (own).
use Rattle.std.specs.Prelude.{◌≡◌, ℕ, List, ◌++◌, Option, Some, None}
use Rattle.mail_base.specs.Histories.{Gains}

-- what is left has lost these at its front; whether it is told never changes
abbrev pub Loses : {X : Type 0} → Option (List X) → Option (List X) → List X → Type 0
Loses None None bytes = Unit {0}
Loses (Some old) (Some new) bytes = old ≡ bytes ++ new
Loses None (Some new) bytes = ⊥
Loses (Some old) None bytes = ⊥

-- what was written has grown by a part of these, at their front
pub record GainsPart (old new : Option (List ℕ)) (bytes : List ℕ) : Type 0 where
  pub part : List ℕ
  pub rest : List ℕ
  pub whole : bytes ≡ part ++ rest
  pub gained : Gains old new part
