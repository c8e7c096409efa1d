-- The ruleset of a name (Sendmail Operation Guide, S: rewriting rulesets).
use Rattle.std.specs.Prelude.{ℕ, List, [], ◌∷◌, Bool, false, Option, Some, None, nat_le, nat_lt, ◌&&◌, if◌then◌else◌}
use Rattle.std.specs.List.{find}
use Rattle.mail_base.specs.Rulesets.{is_named}
use Rattle.mail_base.specs.declared.rule.Rule.{Rule}
use Rattle.mail_base.specs.declared.rule.RuleSet.{RuleSet}

-- the names `0` to `5`
abbrev pub is_standard : List ℕ → Bool
is_standard (digit ∷ []) = nat_le 48 digit && nat_lt digit 54
is_standard _ = false

-- those of the set that was found, and none for a standard set that wasn't
abbrev pub rules_found : List ℕ → Option RuleSet → Option (List Rule)
rules_found name (Some set) = Some set.rules
rules_found name None = if is_standard name then Some [] else None

-- the rules of the first set of that name; a standard set that no line names is empty
abbrev pub rules_named : List RuleSet → List ℕ → Option (List Rule)
rules_named book name = rules_found name (find (is_named name) book)
