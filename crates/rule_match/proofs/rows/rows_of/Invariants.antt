use Rattle.std.proofs.Common.{◌≡◌, ◌+◌, ◌≤◌, List, ◌++◌, length, drop}
use Rattle.std.specs.Prelude.{count_by}
use Rattle.mail_base.specs.declared.rule.Item.{Item}
use Rattle.mail_base.specs.Metas.{is_late, is_meta}
use Rattle.rule_match.specs.Wants.{wants}
use Rattle.rule_match.specs.inner.Rows.{IsRow, AreRows}
use Rattle.rule_match.proofs.rows.rows_of.Given as goal

-- the row and the rows are those of the items that are done, and the lists from this place on are theirs
abbrev pub invariant-loop-item : goal.invariant-loop-item
invariant-loop-item g l = record {
  done : List Item;
  items : l.items ≡ l.left ++ done;
  lists : l.lists ≡ count_by is_late l.left;
  few : l.lists ≤ length l.late;
  row : IsRow l.tokens (wants l.classes (drop l.lists l.late) done) l.row;
  rows : AreRows l.tokens (wants l.classes (drop l.lists l.late) done) l.rows.items;
  room : length l.rows.items + count_by is_meta l.left ≤ 20;
}

abbrev pub decreases-loop-item : goal.decreases-loop-item
decreases-loop-item g l = length l.left
