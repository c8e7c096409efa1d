use Rattle.std.proofs.Common.{◌∙◌, ap, arith}
use Rattle.std.proofs.lemmas.List.{take_all}
use Rattle.ruleset_run.specs.Filling.{pieces_tokens}
use Rattle.ruleset_run.specs.inner.Values.{lates}
use Rattle.ruleset_run.proofs.filler.tokens_of.Goals as goal

pub returns-clause-tokens : goal.returns-clause-tokens
returns-clause-tokens c = λ found is. c.loop-piece.invariant.given found is ∙ ap (pieces_tokens (lates c.args.values.now) found) (take_all c.loop-piece.piece-index c.args.pieces.now (omega arith))
