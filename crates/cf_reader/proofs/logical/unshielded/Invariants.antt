use Rattle.std.proofs.Common.{◌≡◌, ◌++◌, drop}
use Rattle.cf_reader.specs.LogicalLines as spec
use Rattle.cf_reader.proofs.logical.unshielded.Given as goal

abbrev pub invariant-loop-index : goal.invariant-loop-index
invariant-loop-index l = l.plain ++ spec.unshielded (drop l.index l.text) ≡ spec.unshielded l.text
