use Rattle.std.proofs.Common.{Result, drop}
use Rattle.std.specs.Prelude.{List}
use Rattle.mail_base.specs.declared.route.Cause.{Cause}
use Rattle.mail_base.specs.declared.token.Token.{Token}
use Rattle.ruleset_run.specs.Sites.{site_of}
use Rattle.ruleset_run.specs.Sets.{Through}
use Rattle.ruleset_run.proofs.passing.through.Given as goal

-- whatever the rulesets that are left give, all give
abbrev pub invariant-loop-set : goal.invariant-loop-set
invariant-loop-set l = (answer : Result (List Token) Cause) → Through (site_of l.config l.maps) l.macros (drop l.set-index l.sets) l.now answer → Through (site_of l.config l.maps) l.macros l.sets l.fn.tokens answer
