use Rattle.std.proofs.Common.{◌^◌, sym, subst}
use Rattle.cf_values.specs.Times.{IsTime, last_unit}
use Rattle.cf_values.specs.Refusals.{IsRefused}
use Rattle.cf_values.proofs.RefusalLemmas.{value_of, place_of}
use Rattle.cf_values.proofs.TimeLemmas.{times}
use Rattle.cf_values.proofs.timespan.time.Goals as goal

pub returns-clause-value : goal.returns-clause-value
returns-clause-value c = λ n is. value_of (IsTime (last_unit c.args.unit)) (times (last_unit c.args.unit)) (2 ^ 60) c.bytes.result.now c.time_of.result (rw c.told.ensures at c.time_of.ensures.ok) (rw c.told.ensures at c.time_of.ensures.bad) n (subst (λ t. IsTime (last_unit c.args.unit) t n) (sym c.bytes.ensures) is)

pub returns-clause-place : goal.returns-clause-place
returns-clause-place c = λ place refused. place_of (IsTime (last_unit c.args.unit)) (times (last_unit c.args.unit)) (2 ^ 60) c.bytes.result.now c.time_of.result (rw c.told.ensures at c.time_of.ensures.ok) (rw c.told.ensures at c.time_of.ensures.bad) place (subst (λ t. IsRefused (IsTime (last_unit c.args.unit)) (2 ^ 60) t place) (sym c.bytes.ensures) refused)
