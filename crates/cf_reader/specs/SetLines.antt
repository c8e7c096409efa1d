-- S lines, which begin a ruleset or go on with it, and where rules go (Sendmail Installation and
-- Operation Guide, "R and S: Rewriting Rules"; what a line means whose two names stood for two
-- rulesets is our own).
use Rattle.std.specs.Prelude.{◌≡◌, ℕ, Bool, List, [], ◌∷◌, ◌++◌, fold, Option, Some, None, if◌then◌else◌, codes, refl}
use Rattle.std.specs.List.{list_any}
use Rattle.mail_base.specs.declared.rule.Rule.{Rule}
use Rattle.mail_base.specs.Rulesets.{Ruled, is_named, with_name, with_rule}
use Rattle.cf_reader.specs.Cuts.{cut_at}
use Rattle.mail_base.specs.Texts.{without_quotes}
use Rattle.mail_base.specs.Whites.{stripped}

-- a name on an S line: without white space at its ends, and without double quotes (34)
abbrev pub set_name : List ℕ → List ℕ
set_name text = without_quotes (stripped text)

-- the names of an S line: its name, and its number behind an equals sign
abbrev pub names_in : List ℕ → Option (List ℕ × List ℕ) → List (List ℕ)
names_in text None = set_name text ∷ []
names_in text (Some parts) = set_name parts.0 ∷ set_name parts.1 ∷ []

-- the names on an S line, by what follows the letter: one, or with `=` (61) two of the same ruleset
abbrev pub set_names : List ℕ → List (List ℕ)
set_names text = names_in text (cut_at 61 text)

-- the ruleset has one of the names
abbrev pub has_one : List (List ℕ) → Ruled → Bool
has_one names set = list_any (λ name. is_named name set) names

-- the ruleset with a name, which it gets where it lacks it
abbrev pub named : Ruled → List ℕ → Ruled
named set name = if is_named name set then set else with_name set name

-- a ruleset with these names too
abbrev pub with_names : List (List ℕ) → Ruled → Ruled
with_names names set = fold named set names

-- the first ruleset of this kind is changed so
abbrev pub with_first : (Ruled → Bool) → (Ruled → Ruled) → List Ruled → List Ruled
with_first passes change [] = []
with_first passes change (set ∷ sets) =
    if passes set then change set ∷ sets else set ∷ with_first passes change sets

-- a ruleset without names and rules
abbrev pub empty_set : Ruled
empty_set = record { names = []; rules = [] }

-- the first ruleset that has one of the names gets the others; where none has one, a new ruleset
-- has them all
abbrev pub begun : List (List ℕ) → List Ruled → List Ruled
begun names book = if list_any (has_one names) book
    then with_first (has_one names) (with_names names) book
    else book ++ with_names names empty_set ∷ []

-- a rule is the last of the ruleset of these names, which it begins where no line did
abbrev pub with_rule_of : List (List ℕ) → Rule → List Ruled → List Ruled
with_rule_of names rule book =
    with_first (has_one names) (λ set. with_rule set rule) (begun names book)

three : Ruled
three = record { names = codes "3" ∷ []; rules = [] }

canonify : Ruled
canonify = record { names = codes "3" ∷ codes "Canon" ∷ []; rules = [] }

example : (begun (set_names (codes " Canon = 3")) (three ∷ []) ≡ canonify ∷ [])
    × (begun (set_names (codes "\"3\"")) [] ≡ three ∷ [])
unfolding three canonify
example = (refl, refl)
