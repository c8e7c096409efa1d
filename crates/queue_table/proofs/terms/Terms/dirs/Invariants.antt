use Rattle.std.proofs.Common.{◌≡◌, drop}
use Rattle.std.specs.Prelude.{fold}
use Rattle.queue_table.specs.Directories.{all_dirs, with_group}
use Rattle.queue_table.proofs.terms.Terms.dirs.Given as goal

abbrev pub invariant-loop-index : goal.invariant-loop-index
invariant-loop-index l = fold with_group l.dirs (drop l.index l.self.groups) ≡ all_dirs l.fn.self
