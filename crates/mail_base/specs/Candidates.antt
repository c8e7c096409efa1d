-- The rules that may match a list of tokens, by a token that each of them wants (own).
use Rattle.std.specs.Prelude.{◌≡◌, ℕ, ◌+◌, ◌≤◌, ◌<◌, List, [], ◌∷◌, ◌++◌, Bool, true, false, Option, None, Some, filter, fold, slice_get, ◌||◌, if◌then◌else◌}
use Rattle.std.specs.List.{list_any}
use Rattle.mail_base.specs.declared.token.Token.{Token}
use Rattle.mail_base.specs.declared.token.Token.TheVariants.{Word}
use Rattle.mail_base.specs.declared.rule.Item.{Item}
use Rattle.mail_base.specs.declared.rule.Item.TheVariants.{Exact}
use Rattle.mail_base.specs.declared.rule.Rule.{Rule}
use Rattle.mail_base.specs.declared.rule.Numbered.{Numbered}
use Rattle.mail_base.specs.Metas.{is_late}
use Rattle.mail_base.specs.Tokens.{same_token}

-- the first token that stands for itself and is a word
abbrev pub first_word : List Item → Option Token
first_word [] = None
first_word (Exact (Word text) ∷ items) = Some (Word text)
first_word (item ∷ items) = first_word items

-- the first token that stands for itself
abbrev pub first_exact : List Item → Option Token
first_exact [] = None
first_exact (Exact token ∷ items) = Some token
first_exact (item ∷ items) = first_exact items

abbrev pub or_else : Option Token → Option Token → Option Token
or_else (Some token) other = Some token
or_else None other = other

-- the anchor of a left side: its first word, or else its first token; none with a `$&x`, whose
-- value may be one that can't be cut
abbrev pub anchor : List Item → Option Token
anchor items =
    if list_any is_late items then None else or_else (first_word items) (first_exact items)

abbrev pub is_none : Option Token → Bool
is_none None = true
is_none (Some token) = false

abbrev pub holds : Token → Option Token → Bool
holds token None = false
holds token (Some other) = same_token token other

-- the rule has no anchor
abbrev pub is_free : Rule → Bool
is_free rule = is_none (anchor rule.left)

-- the rule has this anchor, without ascii case
abbrev pub has_anchor : Token → Rule → Bool
has_anchor token rule = holds token (anchor rule.left)

-- a rule is a candidate for tokens where it has no anchor, or its anchor is one of them
abbrev pub is_candidate : List Token → Rule → Bool
is_candidate tokens rule = is_free rule || list_any (λ token. has_anchor token rule) tokens

-- anchors with one more, where none of them is the same without ascii case
abbrev pub with_anchor : List Token → Option Token → List Token
with_anchor tokens None = tokens
with_anchor tokens (Some token) =
    if list_any (same_token token) tokens then tokens else tokens ++ token ∷ []

-- the anchors of rules, each once without ascii case, in order of first meeting
abbrev pub anchors_of : List Rule → List Token
anchors_of rules = fold (λ tokens rule. with_anchor tokens (anchor rule.left)) [] rules

-- the rules with their numbers, from this one on
abbrev pub numbered_from : ℕ → List Rule → List Numbered
numbered_from n [] = []
numbered_from n (rule ∷ rules) = record { number = n; rule = rule } ∷ numbered_from (n + 1) rules

-- the index of rules: for each of their anchors those with it, and those without one, each with
-- its number, in ascending order
abbrev pub anchored : Token → List Rule → List Numbered
anchored token rules = filter (λ one. has_anchor token one.rule) (numbered_from 0 rules)

abbrev pub free : List Rule → List Numbered
free rules = filter (λ one. is_free one.rule) (numbered_from 0 rules)

-- the least candidate from a number on, with its number
pub record IsNext (rules : List Rule) (from : ℕ) (tokens : List Token) (number : ℕ) (rule : Rule)
    : Type 0 where
  pub above : from ≤ number
  pub is : slice_get rules number ≡ Some rule
  pub candidate : is_candidate tokens rule ≡ true
  pub first : (k : ℕ) (other : Rule) → from ≤ k → k < number → slice_get rules k ≡ Some other
      → is_candidate tokens other ≡ false
