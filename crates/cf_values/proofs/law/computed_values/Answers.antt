use Rattle.cf_values.proofs.ComputedLemmas.{number_computed, time_computed}
use Rattle.cf_values.proofs.law.computed_values.Goals as goal

pub returns-clause-number : goal.returns-clause-number
returns-clause-number c = λ text n. number_computed text n

pub returns-clause-time : goal.returns-clause-time
returns-clause-time c = λ unit text n. time_computed unit text n
