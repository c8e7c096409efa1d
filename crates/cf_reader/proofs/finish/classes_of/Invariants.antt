use Rattle.std.proofs.Common.{◌≡◌, drop}
use Rattle.std.specs.Prelude.{fold}
use Rattle.cf_reader.specs.ClassLines.{with_words}
use Rattle.cf_reader.specs.Configuration as spec
use Rattle.cf_reader.proofs.finish.classes_of.Given as goal

abbrev pub invariant-loop-line : goal.invariant-loop-line
invariant-loop-line l = fold (with_words l.operators) l.classes (drop l.line-index l.lines) ≡ spec.classes_of l.fn.operators l.fn.lines
