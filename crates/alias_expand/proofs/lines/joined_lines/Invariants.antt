use Rattle.std.proofs.Common.{◌≡◌, ◌≤◌, ◌+◌, length}
use Rattle.std.specs.Prelude.{filter}
use Rattle.std.specs.List.{slice_split}
use Rattle.mail_base.specs.Texts.{is_lf}
use Rattle.alias_expand.specs.Lines.{heard_lines, is_heard, joined}
use Rattle.alias_expand.specs.inner.Cutting.{pending}
use Rattle.alias_expand.proofs.lines.joined_lines.Given as goal

-- the lines so far and those that are joined of the rest are all, but for those that say nothing
abbrev pub invariant-lines : goal.invariant-lines
invariant-lines l = record {
  so_far : filter is_heard (pending l.behind l.lines.items (joined l.behind (l.number + 1) (slice_split is_lf l.rest))) ≡ heard_lines l.fn.text;
  few : l.number + length l.rest ≤ length l.fn.text;
}

abbrev pub decreases-lines : goal.decreases-lines
decreases-lines l = length l.rest
