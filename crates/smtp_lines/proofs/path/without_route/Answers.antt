use Rattle.std.proofs.Common.{◌+◌, ◌∙◌}
use Rattle.std.proofs.lemmas.List.{take_rest}
use Rattle.smtp_lines.proofs.FoundLemmas.{no_colon, no_route, after_route}
use Rattle.smtp_lines.proofs.path.without_route.Goals as goal

pub returns-in_default : goal.returns-in_default
returns-in_default c = no_colon c.args.path.now c.in_default.ensures

pub returns-then-first-eq64 : goal.returns-then-first-eq64
returns-then-first-eq64 c =
    take_rest c.args.path.now (c.in-Some.colon + 1) ∙ after_route c.args.path.now c.in-Some.colon c.in-Some.ensures c.if-first-eq64.true

pub returns : goal.returns
returns c = no_route c.args.path.now c.if-first-eq64.false
