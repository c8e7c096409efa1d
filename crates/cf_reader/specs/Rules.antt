-- R lines: the rule that one says, and its first fault (Sendmail Installation and Operation Guide,
-- "R and S: Rewriting Rules"; the order of faults and the limit of 20 are our own).
use Rattle.std.specs.Prelude.{ℕ, List, [], ◌∷◌, length, count_by, Bool, not, ◌||◌, ◌==◌, nat_lt, Option, Some, None, is_none, unwrap_or}
use Rattle.std.specs.List.{list_any}
use Rattle.mail_base.specs.Metas.{is_meta}
use Rattle.mail_base.specs.declared.rule.Item.{Item}
use Rattle.mail_base.specs.declared.rule.Go.TheVariants.{Again}
use Rattle.mail_base.specs.declared.rule.Template.{Template}
use Rattle.mail_base.specs.declared.rule.Rule.{Rule}
use Rattle.addr_tokens.specs.declared.lexeme.Lexeme.{Lexeme}
use Rattle.cf_reader.specs.declared.fault.Fault.{Fault}
use Rattle.cf_reader.specs.declared.fault.Fault.TheVariants.{NoTab, BadPattern, TooManyMetas, BadReference}
use Rattle.cf_reader.specs.Reads.{first_fault}
use Rattle.cf_reader.specs.Sides.{is_tab, left_of, right_of, lexemes_in, items_of, template_of, is_binding, is_bad_reference}

-- no tab, or nothing before it
abbrev pub lacks_tab : List ℕ → Bool
lacks_tab line = not (list_any is_tab line) || length (left_of line) == 0

-- what the two sides are made of, where they can be expanded and cut
pub record Halves : Type 0 where
  pub left : Option (List Lexeme)
  pub right : Option (List Lexeme)

-- the two sides of a rule, where each could be cut
abbrev pub sides : Option (List Lexeme) → Option (List Lexeme) → Halves
sides left right = record { left = left; right = right }

-- the items of a left side that could be cut
abbrev pub items_in : Option (List Lexeme) → Option (List Item)
items_in None = None
items_in (Some lexemes) = items_of lexemes

-- the template of a right side that could be cut
abbrev pub template_in : Option (List Lexeme) → Option Template
template_in None = None
template_in (Some lexemes) = template_of lexemes

-- the rule of both, where each has its meaning
abbrev pub rule_in : Halves → Rule
rule_in halves = record {
  left = unwrap_or (items_in halves.left) [];
  right = unwrap_or (template_in halves.right) (record { go = Again; steps = [] });
}

-- a side can't be expanded or cut, or isn't what a side may be
abbrev pub is_bad_pattern : Halves → Bool
is_bad_pattern halves = is_none (items_in halves.left) || is_none (template_in halves.right)

-- more than 20 items of the left side are written with a dollar sign
abbrev pub has_many_metas : Halves → Bool
has_many_metas halves = nat_lt 20 (count_by is_meta (rule_in halves).left)

-- the right side names a match that the left side doesn't make
abbrev pub refers_badly : Halves → Bool
refers_badly halves = list_any (is_bad_reference (count_by is_binding (unwrap_or halves.left [])))
    (unwrap_or halves.right [])

-- the faults of two sides, in order
abbrev pub faults_in : Halves → List (Fault × Bool)
faults_in halves = (BadPattern, is_bad_pattern halves) ∷ (TooManyMetas, has_many_metas halves)
    ∷ (BadReference, refers_badly halves) ∷ []

-- the sides of an R line, expanded and cut
abbrev pub halves_of : List ℕ → List (List ℕ × List ℕ) → List ℕ → Halves
halves_of line macros operators =
    sides (lexemes_in macros operators (left_of line)) (lexemes_in macros operators (right_of line))

-- the first fault of an R line, by what follows the letter
abbrev pub fault_of_rule : List ℕ → List (List ℕ × List ℕ) → List ℕ → Option Fault
fault_of_rule line macros operators =
    first_fault ((NoTab, lacks_tab line) ∷ faults_in (halves_of line macros operators))

-- what it says where it has no fault
abbrev pub rule_of : List ℕ → List (List ℕ × List ℕ) → List ℕ → Rule
rule_of line macros operators = rule_in (halves_of line macros operators)
