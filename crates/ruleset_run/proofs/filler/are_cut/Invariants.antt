use Rattle.std.proofs.Common.{◌≡◌, take, true}
use Rattle.std.specs.List.{list_all}
use Rattle.ruleset_run.specs.Filling.{is_cut_piece}
use Rattle.ruleset_run.specs.inner.Values.{lates}
use Rattle.ruleset_run.proofs.filler.are_cut.Given as goal

-- the pieces so far can be cut
abbrev pub invariant-loop-piece : goal.invariant-loop-piece
invariant-loop-piece l = record {
  same : l.values ≡ l.fn.values;
  cut : list_all (is_cut_piece (lates l.fn.values)) (take l.piece-index l.pieces) ≡ true;
}
