-- The places of K lines by their names.
use Rattle.std.proofs.Common.{◌≡◌, ℕ, List, [], ◌∷◌, ◌++◌, Some, length, sym, subst}
use Rattle.mail_base.specs.Catalogs.{SetsValue}
use Rattle.mail_base.specs.declared.lines.MapLine.{MapLine}
use Rattle.mail_base.proofs.LastLemmas.{last_put}
use Rattle.cf_reader.specs.Places.{IsPlaced, name_of}

-- a line was pushed, and its place set at its name
pub placed_pushed : (maps pushed : List MapLine) (map : MapLine) (name : List ℕ) (place : ℕ) (old new : List (List ℕ × ℕ)) → IsPlaced maps old → pushed ≡ maps ++ map ∷ [] → name ≡ map.name → place ≡ length maps
    → SetsValue {V = ℕ} name (Some place) old new → IsPlaced pushed new
placed_pushed maps pushed map name place old new placed put named at sets =
    let there = subst (λ (k : ℕ). SetsValue {V = ℕ} name (Some k) old new) at sets in
    subst (λ (m : List MapLine). IsPlaced m new) (sym put)
    (last_put name_of maps map old new placed (subst (λ (n : List ℕ). SetsValue {V = ℕ} n (Some (length maps)) old new) named there))
