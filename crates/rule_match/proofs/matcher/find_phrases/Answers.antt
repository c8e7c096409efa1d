use Rattle.std.proofs.Common.{sym, ◌∙◌}
use Rattle.std.proofs.lemmas.Bool.{both_ways}
use Rattle.rule_match.specs.Wants.{wants}
use Rattle.rule_match.specs.inner.Steps.{front_stands}
use Rattle.rule_match.proofs.Fitting.{fits_stands}
use Rattle.rule_match.proofs.matcher.find_phrases.Goals as goal

pub returns-then-not-front_stands-clause-none : goal.returns-then-not-front_stands-clause-none
returns-then-not-front_stands-clause-none c = λ no lengths fits.
    let ws = wants c.args.classes.now c.args.late.now c.args.pattern.now in
    both_ways (front_stands ws c.args.tokens.now) (sym c.front_stands.ensures ∙ c.if-not-front_stands.true) (fits_stands ws c.args.tokens.now lengths fits)
