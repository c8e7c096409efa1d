-- Rulesets, as their names and their rules in order (Sendmail Operation Guide, S: rewriting
-- rulesets).
use Rattle.std.specs.Prelude.{◌≡◌, ℕ, List, [], ◌∷◌, ◌++◌, Bool, Some, position, codes, refl}
use Rattle.std.specs.List.{list_any}
use Rattle.std.specs.Str.{str_eq_ignore_ascii_case}
use Rattle.mail_base.specs.declared.rule.Rule.{Rule}

pub record Ruled : Type 0 where
  pub names : List (List ℕ)
  pub rules : List Rule

-- one of the ruleset's names is this one without ascii case (own)
abbrev pub is_named : List ℕ → Ruled → Bool
is_named name ruled = list_any (λ given. str_eq_ignore_ascii_case given name) ruled.names

-- a ruleset with one rule more at its end
abbrev pub with_rule : Ruled → Rule → Ruled
with_rule ruled rule = record ruled { rules = ruled.rules ++ rule ∷ [] }

-- a ruleset with one name more
abbrev pub with_name : Ruled → List ℕ → Ruled
with_name ruled name = record ruled { names = ruled.names ++ name ∷ [] }

one : Ruled
one = record { names = codes "3" ∷ codes "Canon" ∷ []; rules = [] }

two : Ruled
two = record { names = codes "canon" ∷ []; rules = [] }

example : position (is_named (codes "CANON")) (two ∷ one ∷ []) ≡ Some 0
unfolding one two
example = refl
