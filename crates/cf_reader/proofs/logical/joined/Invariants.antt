use Rattle.std.proofs.Common.{◌≡◌, ◌++◌, ◌∷◌, length}
use Rattle.std.specs.List.{flat_map, take_while}
use Rattle.cf_reader.specs.LogicalLines.{physical_lines}
use Rattle.cf_reader.specs.LogicalLines as spec
use Rattle.cf_reader.proofs.logical.joined.Given as goal

-- the text so far and the indented lines that are left are the whole line
abbrev pub invariant-loop-rest : goal.invariant-loop-rest
invariant-loop-rest l = l.text ++ flat_map (λ more. l.joint ∷ more) (take_while spec.is_indented (physical_lines l.rest)) ≡ spec.joined l.fn.line (take_while spec.is_indented (physical_lines l.fn.after))

abbrev pub decreases-loop-rest : goal.decreases-loop-rest
decreases-loop-rest l = length l.rest
