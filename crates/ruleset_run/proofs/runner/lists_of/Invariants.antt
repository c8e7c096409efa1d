use Rattle.std.proofs.Common.{◌≡◌, take, true}
use Rattle.std.specs.List.{list_all, flat_map}
use Rattle.ruleset_run.specs.Cutting.{is_cut_item, item_lists}
use Rattle.ruleset_run.specs.inner.Values.{lates}
use Rattle.ruleset_run.proofs.runner.lists_of.Given as goal

-- the lists of the items so far
abbrev pub invariant-loop-item : goal.invariant-loop-item
invariant-loop-item l = record {
  same : l.values ≡ l.fn.values;
  cut : list_all (is_cut_item (lates l.fn.values)) (take l.item-index l.items) ≡ true;
  lists : l.lists ≡ flat_map (item_lists (lates l.fn.values)) (take l.item-index l.items);
}
