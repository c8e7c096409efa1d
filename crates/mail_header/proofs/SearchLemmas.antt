-- The set of a CR and an LF, by which a search goes.
use Rattle.std.proofs.Common.{◌≡◌, ℕ, ◌==◌, Bool, true, false, not, ◌||◌, ◌&&◌, [], ◌∷◌, refl}
use Rattle.bstr.specs.Bytes.{is_in}
use Rattle.mail_header.specs.Headers.{is_plain}

in_ends : (b c : Bool) → (b || (c || false)) ≡ not (not b && not c)
in_ends true c = refl
in_ends false true = refl
in_ends false false = refl

-- the set of a CR and an LF
pub ends_are : (b : ℕ) → is_in (13 ∷ 10 ∷ []) b ≡ not (is_plain b)
unfolding is_in
ends_are b = in_ends (b == 13) (b == 10)
