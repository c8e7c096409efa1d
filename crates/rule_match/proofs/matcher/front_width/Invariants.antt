use Rattle.std.proofs.Common.{◌≡◌, ◌+◌, ◌≤◌, drop}
use Rattle.std.specs.List.{list_any}
use Rattle.rule_match.specs.inner.Steps.{front_width, is_free}
use Rattle.rule_match.proofs.matcher.front_width.Given as goal

-- what is left of the room, and what the items that are left take
abbrev pub invariant-loop-item : goal.invariant-loop-item
invariant-loop-item l = record {
  both : l.room + front_width l.late l.items ≡ l.most + front_width l.lists (drop l.item-index l.items);
  free : list_any is_free l.items ≡ list_any is_free (drop l.item-index l.items);
  room : l.room ≤ l.most;
}
