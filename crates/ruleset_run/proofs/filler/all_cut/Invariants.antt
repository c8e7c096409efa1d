use Rattle.std.proofs.Common.{◌≡◌, take, true}
use Rattle.std.specs.List.{list_all}
use Rattle.ruleset_run.specs.Filling.{is_cut_piece}
use Rattle.ruleset_run.specs.inner.Values.{lates}
use Rattle.ruleset_run.proofs.filler.all_cut.Given as goal

-- the arguments so far can be cut
abbrev pub invariant-loop-pieces : goal.invariant-loop-pieces
invariant-loop-pieces l = record {
  same : l.values ≡ l.fn.values;
  cut : list_all (list_all (is_cut_piece (lates l.fn.values))) (take l.pieces-index l.args) ≡ true;
}
