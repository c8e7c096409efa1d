use Rattle.std.proofs.Common.{◌≡◌, drop}
use Rattle.std.specs.Prelude.{filter}
use Rattle.alias_expand.specs.Lines.{is_heard}
use Rattle.alias_expand.specs.Lines as spec
use Rattle.alias_expand.specs.inner.Cutting.{merged}
use Rattle.alias_expand.proofs.lines.grouped.Given as goal

-- the lines so far with those that are grouped of the rest are all
abbrev pub invariant-loop-line : goal.invariant-loop-line
invariant-loop-line l = merged l.lines.items (spec.grouped (filter is_heard (drop l.line-index l.joined))) ≡ spec.grouped (filter is_heard l.joined)
