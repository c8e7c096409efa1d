use Rattle.cf_values.specs.Times.{last_unit}
use Rattle.cf_values.proofs.NumberLemmas.{numbers}
use Rattle.cf_values.proofs.ParseLemmas.{one_time}
use Rattle.cf_values.proofs.law.one_meaning.Goals as goal

pub returns-clause-number : goal.returns-clause-number
returns-clause-number c = numbers.one

pub returns-clause-time : goal.returns-clause-time
returns-clause-time c = λ unit text n m. one_time (last_unit unit) text n m
