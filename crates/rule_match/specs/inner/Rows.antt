-- Rows of bits, one bit for each place of the tokens; only private contracts cite it.
use Rattle.std.specs.Prelude.{◌≡◌, ℕ, ◌+◌, ◌/◌, ◌%◌, ◌≤◌, ◌<◌, ◌==◌, List, [], ◌∷◌, ◌++◌, length, take, drop, Bool, true, false, slice_index, nat_le, ◌&&◌}
use Rattle.std.specs.Int.{bit_at}
use Rattle.mail_base.specs.declared.token.Token.{Token}
use Rattle.rule_match.specs.Wants.{Want, meets}
use Rattle.rule_match.specs.Choices.{Fits}
use Rattle.rule_match.specs.inner.Steps.{is_choosing, width}

-- the bit of a place
unfoldable pub has : List ℕ → ℕ → Bool
has words place = bit_at (slice_index words (place / 64)) (place % 64) == 1

-- the bit of each place tells whether the items fit the tokens from it on
pub record IsRow (tokens : List Token) (wants : List Want) (row : List ℕ) : Type 0 where
  pub set : (place : ℕ) → place ≤ length tokens → has row place ≡ true
      → (lengths : List ℕ) × Fits wants (drop place tokens) lengths
  pub clear : (place : ℕ) → place ≤ length tokens → has row place ≡ false → (lengths : List ℕ)
      → Fits wants (drop place tokens) lengths → ⊥

-- whether a bit is set between two places
pub record IsLater (row : List ℕ) (from last : ℕ) (later : Bool) : Type 0 where
  pub some : later ≡ true → (place : ℕ) × (from ≤ place) × (place ≤ last) × (has row place ≡ true)
  pub none : later ≡ false → (place : ℕ) → from ≤ place → place ≤ last → has row place ≡ true → ⊥

-- whether what an item stands for is met by tokens from a place on up to one whose bit is set
pub record IsStart (want : Want) (left : List Token) (place : ℕ) (row : List ℕ)
    (starts : Bool) : Type 0 where
  pub some : starts ≡ true
      → (n : ℕ) × (n ≤ length left) × (meets want (take n left) ≡ true)
      × (has row (place + n) ≡ true)
  pub none : starts ≡ false → (n : ℕ) → n ≤ length left → meets want (take n left) ≡ true
      → has row (place + n) ≡ true → ⊥

-- the same as a test, of what has matches of one length
abbrev pub starts_fixed : Want → List Token → ℕ → List ℕ → Bool
starts_fixed want left place row = nat_le (width want) (length left) && has row (place + width want)
    && meets want (take (width want) left)

-- the least number of tokens that are a match, up to a place whose bit is set
pub record IsLeast (want : Want) (left : List Token) (place : ℕ) (row : List ℕ)
    (n : ℕ) : Type 0 where
  pub within : n ≤ length left
  pub met : meets want (take n left) ≡ true
  pub set : has row (place + n) ≡ true
  pub least : (m : ℕ) → m ≤ length left → meets want (take m left) ≡ true
      → has row (place + m) ≡ true → n ≤ m

-- the rows behind the items of several possible lengths, the last item's first
pub data AreRows (tokens : List Token) : List Want → List (List ℕ) → Type 0 where
  no_item : AreRows tokens [] []
  fixed : (want : Want) (wants : List Want) (rows : List (List ℕ)) → is_choosing want ≡ false
      → AreRows tokens wants rows → AreRows tokens (want ∷ wants) rows
  choosing : (want : Want) (wants : List Want) (row : List ℕ) (rows all : List (List ℕ))
      → is_choosing want ≡ true → IsRow tokens wants row → AreRows tokens wants rows
      → all ≡ rows ++ row ∷ [] → AreRows tokens (want ∷ wants) all

-- the rows are those of the items, for the tokens that are left behind so many of fewer than a
-- number
pub record StandRows (size : ℕ) (wants : List Want) (left : List Token) (start : ℕ)
    (rows : List (List ℕ)) : Type 0 where
  pub tokens : List Token
  pub are : AreRows tokens wants rows
  pub left_are : left ≡ drop start tokens
  pub within : start ≤ length tokens
  pub short : length tokens < size
