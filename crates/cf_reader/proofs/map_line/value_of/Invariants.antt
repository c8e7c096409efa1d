use Rattle.std.proofs.Common.{◌≡◌, drop, fold, None}
use Rattle.std.specs.Prelude.{option_map}
use Rattle.std.specs.Option.{option_or}
use Rattle.cf_reader.specs.MapLines.{behind}
use Rattle.cf_reader.proofs.map_line.value_of.Given as goal

-- what the value so far and the arguments that are left give is what all give
abbrev pub invariant-loop-arg : goal.invariant-loop-arg
invariant-loop-arg l =
    fold (λ before arg. option_or (behind l.letter arg) before) (option_map (λ value. value.now) l.value) (drop l.arg-index l.args)
    ≡ fold (λ before arg. option_or (behind l.letter arg) before) None l.args
