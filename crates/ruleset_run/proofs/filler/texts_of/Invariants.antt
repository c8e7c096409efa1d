use Rattle.std.proofs.Common.{◌≡◌, map, take}
use Rattle.ruleset_run.specs.Filling.{Matched, asked, pieces_tokens}
use Rattle.ruleset_run.specs.inner.Filler.{IsCutAs}
use Rattle.ruleset_run.specs.inner.Values.{lates}
use Rattle.ruleset_run.proofs.filler.texts_of.Given as goal

-- the texts of the arguments so far
abbrev pub invariant-loop-pieces : goal.invariant-loop-pieces
invariant-loop-pieces l = record {
  same : l.values ≡ l.fn.values;
  texts : (found : Matched) → IsCutAs l.source.left.now l.source.tokens.now l.source.cuts.now found → l.texts ≡ map asked (map (pieces_tokens (lates l.fn.values) found) (take l.pieces-index l.args));
}
