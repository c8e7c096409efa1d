use Rattle.std.proofs.Common.{◌≡◌, ◌++◌, length}
use Rattle.cf_reader.specs.ClassLines as spec
use Rattle.cf_reader.proofs.file_line.words_of_file.Given as goal

abbrev pub invariant-loop-rest : goal.invariant-loop-rest
invariant-loop-rest l = l.words ++ spec.words_of_file l.rest ≡ spec.words_of_file l.fn.text

abbrev pub decreases-loop-rest : goal.decreases-loop-rest
decreases-loop-rest l = length l.rest
