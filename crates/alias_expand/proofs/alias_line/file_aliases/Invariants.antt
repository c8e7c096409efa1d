use Rattle.std.proofs.Common.{◌≡◌, ◌++◌, drop}
use Rattle.std.specs.List.{filter_map, find}
use Rattle.alias_expand.specs.Aliases.{is_refused}
use Rattle.alias_expand.specs.Aliases as spec
use Rattle.alias_expand.proofs.alias_line.file_aliases.Given as goal

-- the aliases so far with those of the rest are all, and the first line that is refused is in the
-- rest
abbrev pub invariant-loop-line : goal.invariant-loop-line
invariant-loop-line l = record {
  so_far : l.aliases ++ filter_map (λ line. spec.alias_of line.text) (drop l.line-index l.line-items) ≡ filter_map (λ line. spec.alias_of line.text) l.line-items;
  none : find is_refused (drop l.line-index l.line-items) ≡ find is_refused l.line-items;
}
