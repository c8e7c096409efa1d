use Rattle.std.proofs.Common.{◌≡◌, ◌+◌, min, take}
use Rattle.std.specs.Prelude.{All}
use Rattle.cf_values.specs.Numbers.{IsDigit, value}
use Rattle.cf_values.proofs.numeral.number_of.Given as goal

abbrev pub invariant-loop-place : goal.invariant-loop-place
invariant-loop-place l = record {
  digits : All IsDigit (take l.place l.text);
  number : l.number ≡ min (l.most + 1) (value (take l.place l.text));
}
