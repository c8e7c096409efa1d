-- One step of the search for the match that a rule takes; only private contracts cite it.
use Rattle.std.specs.Prelude.{ℕ, ◌+◌, ◌-◌, ◌≤◌, ◌<◌, ◌≡◌, ◌==◌, List, [], ◌∷◌, length, take, drop, Bool, true, false, Option, None, IsTrue, ◌&&◌, nat_le, slice_range, if◌then◌else◌}
use Rattle.mail_base.specs.Catalogs.{value_at}
use Rattle.mail_base.specs.declared.class.Member.{Member}
use Rattle.mail_base.specs.declared.classes.Classes.{Classes}
use Rattle.mail_base.specs.declared.token.Token.{Token}
use Rattle.mail_base.specs.declared.rule.Item.{Item}
use Rattle.mail_base.specs.declared.rule.Item.TheVariants.{Any, More, One, InClass, NotInClass, Exact, Late}
use Rattle.rule_match.specs.declared.cuts.Cut.{Cut}
use Rattle.rule_match.specs.Wants.{Want, Anything, Something, Single, Phrase, NoPhrase, These, first_list, lists_after, meets}
use Rattle.rule_match.specs.Choices.{Fits}

-- whether it has matches of several lengths
abbrev pub is_choosing : Want → Bool
is_choosing Anything = true
is_choosing Something = true
is_choosing (Phrase _) = true
is_choosing _ = false

-- whether it is a phrase of a class
abbrev pub has_phrases : Want → Bool
has_phrases (Phrase _) = true
has_phrases _ = false

-- the number of tokens of each match, where all have one length
abbrev pub width : Want → ℕ
width Single = 1
width (NoPhrase _) = 1
width (These tokens) = length tokens
width _ = 0

-- whether the items before the first of several possible lengths meet the first tokens
abbrev pub front_stands : List Want → List Token → Bool
front_stands [] tokens = true
front_stands (want ∷ wants) tokens = if is_choosing want then true
    else (nat_le (width want) (length tokens) && meets want (take (width want) tokens)
    && front_stands wants (drop (width want) tokens))

-- of two places and those between, the place is the first from which the front of the items stands
pub record IsFirstFront (wants : List Want) (tokens : List Token) (least last place : ℕ)
    : Type 0 where
  pub from : least ≤ place
  pub within : place ≤ last
  pub stands : front_stands wants (drop place tokens) ≡ true
  pub first : (k : ℕ) → least ≤ k → k < place → front_stands wants (drop k tokens) ≡ false

-- the place is the first from the least on from which the items fit, if they fit from any
pub record IsFirst (wants : List Want) (tokens : List Token) (least place : ℕ) : Type 0 where
  pub from : least ≤ place
  pub within : place ≤ length tokens
  pub first : (other : ℕ) (lengths : List ℕ) → least ≤ other → other ≤ length tokens
      → Fits wants (drop other tokens) lengths → place ≤ other
  pub enough : (other : ℕ) (lengths : List ℕ) → least ≤ other → other ≤ length tokens
      → Fits wants (drop other tokens) lengths
      → (rest : List ℕ) × Fits wants (drop place tokens) rest

-- the item takes so many tokens in the match that is taken, if there is any
pub record IsNext (want : Want) (wants : List Want) (tokens : List Token) (n : ℕ) : Type 0 where
  pub within : n ≤ length tokens
  pub met : IsTrue (meets want (take n tokens))
  pub first : (m : ℕ) (lengths : List ℕ) → Fits (want ∷ wants) tokens (m ∷ lengths) → n ≤ m
  pub enough : (m : ℕ) (lengths : List ℕ) → Fits (want ∷ wants) tokens (m ∷ lengths)
      → (rest : List ℕ) × Fits wants (drop n tokens) rest

-- whether an item has matches of several lengths, whatever the classes are
abbrev pub is_free : Item → Bool
is_free Any = true
is_free More = true
is_free (InClass _) = true
is_free _ = false

-- the class whose phrases an item matches, where it is there
abbrev pub class_of : Classes → Item → Option (List Member)
class_of classes (InClass name) = value_at name classes
class_of classes _ = None

abbrev pub width_of : List (List Token) → Item → ℕ
width_of late One = 1
width_of late (NotInClass _) = 1
width_of late (Exact _) = 1
width_of late (Late _) = length (first_list late)
width_of late _ = 0

-- how many tokens the items before the first of several possible lengths take
abbrev pub front_width : List (List Token) → List Item → ℕ
front_width late [] = 0
front_width late (item ∷ items) =
    if is_free item then 0 else width_of late item + front_width (lists_after item late) items

-- the piece of the binding cut behind so many others
abbrev pub piece_behind : List Token → List Cut → ℕ → List Token
piece_behind tokens [] k = []
piece_behind tokens (cut ∷ cuts) k =
    if cut.binds
    then (if k == 0 then slice_range tokens cut.start (cut.start + cut.length)
    else piece_behind tokens cuts (k - 1))
    else piece_behind tokens cuts k

-- no cut ends behind the tokens
abbrev pub AreWithin : ℕ → List Cut → Type 0
AreWithin size [] = Unit {0}
AreWithin size (cut ∷ cuts) = (cut.start + cut.length ≤ size) × AreWithin size cuts
