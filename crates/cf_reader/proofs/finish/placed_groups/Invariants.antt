use Rattle.std.proofs.Common.{◌≡◌, drop}
use Rattle.std.specs.Prelude.{fold}
use Rattle.cf_reader.specs.Configuration as spec
use Rattle.cf_reader.proofs.finish.placed_groups.Given as goal

abbrev pub invariant-loop-index : goal.invariant-loop-index
invariant-loop-index l = fold (spec.with_group l.directory) l.placed (drop l.index l.groups) ≡ spec.placed_groups l.fn.directory l.fn.groups
