use Rattle.std.proofs.Common.{◌≡◌, take, true}
use Rattle.std.specs.List.{list_all}
use Rattle.ruleset_run.specs.Filling.{is_cut_step}
use Rattle.ruleset_run.specs.inner.Values.{lates}
use Rattle.ruleset_run.proofs.filler.is_cut.Given as goal

-- the steps so far can be cut
abbrev pub invariant-loop-step : goal.invariant-loop-step
invariant-loop-step l = record {
  same : l.values ≡ l.fn.values;
  cut : list_all (is_cut_step (lates l.fn.values)) (take l.step-index l.steps) ≡ true;
}
