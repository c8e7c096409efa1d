use Rattle.std.proofs.Common.{◌≡◌, take}
use Rattle.ruleset_run.specs.Filling.{Matched, pieces_tokens}
use Rattle.ruleset_run.specs.inner.Filler.{IsCutAs}
use Rattle.ruleset_run.specs.inner.Values.{lates}
use Rattle.ruleset_run.proofs.filler.tokens_of.Given as goal

-- the tokens of the pieces so far
abbrev pub invariant-loop-piece : goal.invariant-loop-piece
invariant-loop-piece l = record {
  same : l.values ≡ l.fn.values;
  given : (found : Matched) → IsCutAs l.source.left.now l.source.tokens.now l.source.cuts.now found → l.given ≡ pieces_tokens (lates l.fn.values) found (take l.piece-index l.pieces);
}
