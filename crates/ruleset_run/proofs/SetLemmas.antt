-- The ruleset of a name, as the code finds it.
use Rattle.std.proofs.Common.{◌≡◌, ℕ, List, [], Some, None, true, false, ◌∙◌, ap}
use Rattle.std.specs.List.{find}
use Rattle.std.proofs.lemmas.Bool.{cond-true, cond-false}
use Rattle.mail_base.specs.Rulesets.{is_named}
use Rattle.mail_base.specs.declared.rule.RuleSet.{RuleSet}
use Rattle.ruleset_run.specs.Books.{is_standard, rules_found}
use Rattle.ruleset_run.specs.Sites.{Site}
use Rattle.ruleset_run.specs.Runs.{rules_called}

-- a standard set that the site's book doesn't have is there without rules
pub absent_standard : (site : Site) (name : List ℕ) → find (is_named name) site.book ≡ None → is_standard name ≡ true → rules_called site (Some name) ≡ Some []
absent_standard site name none is = ap (rules_found name) none ∙ cond-true (is_standard name) (Some []) None is

-- a set that neither the book has nor a standard names isn't there
pub absent_other : (site : Site) (name : List ℕ) → find (is_named name) site.book ≡ None → is_standard name ≡ false → rules_called site (Some name) ≡ None
absent_other site name none is = ap (rules_found name) none ∙ cond-false (is_standard name) (Some []) None is

-- a set that the book has gives its rules
pub found_rules : (site : Site) (name : List ℕ) (set : RuleSet) → find (is_named name) site.book ≡ Some set → rules_called site (Some name) ≡ Some set.rules
found_rules site name set is = ap (rules_found name) is
