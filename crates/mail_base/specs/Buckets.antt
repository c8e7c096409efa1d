-- Where the rules of a ruleset stand: in buckets by anchor, and nowhere else.
use Rattle.std.specs.Prelude.{◌≡◌, ℕ, ◌<◌, ◌^◌, List, [], ◌∷◌, length, map, Option, None, Some, slice_get, take, unwrap_or, ◌++◌, true, false}
use Rattle.std.specs.List.{flat_map}
use Rattle.std.specs.Map.{keys_of, lookup}
use Rattle.mail_base.specs.declared.token.Token.{Token}
use Rattle.mail_base.specs.declared.rule.Rule.{Rule}
use Rattle.mail_base.specs.declared.rule.Numbered.{Numbered}
use Rattle.mail_base.specs.declared.rule.Slot.{Slot}
use Rattle.mail_base.specs.Candidates.{anchor, anchored, anchors_of, free, numbered_from}
use Rattle.mail_base.specs.Masks.{wanted_mask}
use Rattle.mail_base.specs.Tokens.{same_token}

-- the bucket of an anchor
abbrev pub bucket_of : Token → List (Token × List Numbered) → List Numbered
bucket_of token entries = unwrap_or (lookup (same_token token) entries) []

abbrev pub at_place : Option (Token × List Numbered) → ℕ → Option Numbered
at_place None k = None
at_place (Some entry) k = slice_get entry.1 k

abbrev pub in_bucket : Option ℕ → ℕ → List (Token × List Numbered) → List Numbered
    → Option Numbered
in_bucket None k entries loose = slice_get loose k
in_bucket (Some place) k entries loose = at_place (slice_get entries place) k

-- the rule that stands in a slot
abbrev pub stored : List (Token × List Numbered) → List Numbered → Slot → Option Numbered
stored entries loose slot = in_bucket slot.bucket slot.place entries loose

abbrev pub rule_in : Option Numbered → List Rule
rule_in None = []
rule_in (Some one) = one.rule ∷ []

abbrev pub listed : Option Rule → List Rule
listed None = []
listed (Some rule) = rule ∷ []

-- the rules of all buckets in order of their numbers
abbrev pub in_order : List (Token × List Numbered) → List Numbered → List Slot → List Rule
in_order entries loose slots = flat_map (λ slot. rule_in (stored entries loose slot)) slots

-- the buckets are the index of these rules, one for each anchor in order of first meeting, and each
-- slot has its rule
pub record IsIndex (rules : List Rule) (entries : List (Token × List Numbered))
    (loose : List Numbered) (slots : List Slot) : Type 0 where
  pub each : (token : Token) → bucket_of token entries ≡ anchored token rules
  pub order : keys_of entries ≡ anchors_of rules
  pub rest : loose ≡ free rules
  pub places : map (stored entries loose) slots ≡ map Some (numbered_from 0 rules)
  pub masks : map (λ slot. slot.wanted) slots ≡ map (λ rule. wanted_mask rule.left) rules
  pub few : length slots < 2 ^ 32

-- ---- one rule more

-- the slot is the end of the bucket of this anchor
abbrev pub IsEndOf : Token → Slot → List (Token × List Numbered) → Type 0
IsEndOf anchor slot entries =
    (place : ℕ) × (key : Token) × (bucket : List Numbered) × (slot.bucket ≡ Some place)
    × (slice_get entries place ≡ Some (key, bucket)) × (same_token anchor key ≡ true)
    × (slot.place ≡ length bucket)

abbrev pub IsSlotAt : Option Token → Slot → List (Token × List Numbered) → List Numbered → Type 0
IsSlotAt None slot entries loose = (slot.bucket ≡ None) × (slot.place ≡ length loose)
IsSlotAt (Some anchor) slot entries loose = IsEndOf anchor slot entries

-- the slot is the end of the bucket in which the rule is to stand, with what its left side wants
pub record IsSlotFor (rule : Rule) (slot : Slot) (entries : List (Token × List Numbered))
    (loose : List Numbered) : Type 0 where
  pub at : IsSlotAt (anchor rule.left) slot entries loose
  pub wants : slot.wanted ≡ wanted_mask rule.left

-- each bucket is as before, and what is new stands behind them
pub record Keeps (old new : List (Token × List Numbered)) : Type 0 where
  pub front : take (length old) new ≡ old
  pub each : (token : Token) → bucket_of token new ≡ bucket_of token old
  pub places : (place : ℕ) (entry : Token × List Numbered) → slice_get old place ≡ Some entry
      → slice_get new place ≡ Some entry

-- there is such a bucket
abbrev pub IsBucket : Option ℕ → List (Token × List Numbered) → Type 0
IsBucket None entries = Unit {0}
IsBucket (Some place) entries = place < length entries

-- the bucket at a place has one more at its end
pub record Grows (place : ℕ) (one : Numbered) (old new : List (Token × List Numbered))
    : Type 0 where
  pub key : Token
  pub bucket : List Numbered
  pub keys : keys_of new ≡ keys_of old
  pub was : slice_get old place ≡ Some (key, bucket)
  pub is : slice_get new place ≡ Some (key, bucket ++ one ∷ [])
  pub same : (token : Token) → same_token key token ≡ true
      → (bucket_of token old ≡ bucket) × (bucket_of token new ≡ bucket ++ one ∷ [])
  pub others : (token : Token) → same_token key token ≡ false
      → bucket_of token new ≡ bucket_of token old
  pub places : (other : ℕ) → (other ≡ place → ⊥) → slice_get new other ≡ slice_get old other

abbrev pub Puts : Option ℕ → Numbered → List (Token × List Numbered) → List Numbered
    → List (Token × List Numbered) → List Numbered → Type 0
Puts None one old loose new more = (new ≡ old) × (more ≡ loose ++ one ∷ [])
Puts (Some place) one old loose new more = Grows place one old new × (more ≡ loose)

-- a slot more, in which a rule was put
pub record Adds (slot : Slot) (one : Numbered) (old : List (Token × List Numbered))
    (loose : List Numbered) (before : List Slot) (new : List (Token × List Numbered))
    (more : List Numbered) (now : List Slot) : Type 0 where
  pub slots : now ≡ before ++ slot ∷ []
  pub puts : Puts slot.bucket one old loose new more
