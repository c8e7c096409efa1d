-- The match that a rule takes, among all that its left side has (Sendmail Operation Guide, R and S:
-- rewriting rules).
use Rattle.std.specs.Prelude.{◌≡◌, ℕ, ◌<◌, ◌≤◌, ◌⊎◌, List, [], ◌∷◌, length, take, drop, IsTrue}
use Rattle.mail_base.specs.declared.token.Token.{Token}
use Rattle.rule_match.specs.Wants.{Want, meets}

-- cuts of these lengths, one per item and laid end to end, cover all tokens, and the piece in each
-- is a match of what its item stands for
abbrev pub Fits : List Want → List Token → List ℕ → Type 0
Fits [] [] [] = Unit {0}
Fits (want ∷ wants) tokens (n ∷ lengths) =
    (n ≤ length tokens) × IsTrue (meets want (take n tokens)) × Fits wants (drop n tokens) lengths
Fits _ _ _ = ⊥

-- the first list is at most the second, where the first place in which they differ decides
abbrev pub IsAtMost : List ℕ → List ℕ → Type 0
IsAtMost [] ms = Unit {0}
IsAtMost (n ∷ ns) [] = ⊥
IsAtMost (n ∷ ns) (m ∷ ms) = (n < m) ⊎ ((n ≡ m) × IsAtMost ns ms)

-- of all lists of lengths that fit the one that is taken, the least (own)
pub record Chosen (wants : List Want) (tokens : List Token) (lengths : List ℕ) : Type 0 where
  pub fits : Fits wants tokens lengths
  pub least : (others : List ℕ) → Fits wants tokens others → IsAtMost lengths others
