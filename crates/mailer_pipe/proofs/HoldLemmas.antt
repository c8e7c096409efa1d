-- The end of a search for `$u`.
use Rattle.std.proofs.Common.{◌≡◌, ◌<◌, false, List, [], ◌∷◌, ℕ, length, refl, arith}
use Rattle.mailer_pipe.specs.Arguments.{holds_user}

-- nothing begins in less than two bytes
pub holds_none : (text : List ℕ) → length text < 2 → holds_user text ≡ false
holds_none [] low = refl
holds_none (b ∷ []) low = refl
holds_none (b ∷ c ∷ text) low = absurd (omega arith)
