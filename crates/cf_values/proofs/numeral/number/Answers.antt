use Rattle.std.proofs.Common.{sym, subst}
use Rattle.cf_values.specs.Numbers.{IsNumber}
use Rattle.cf_values.specs.Refusals.{IsRefused}
use Rattle.cf_values.proofs.RefusalLemmas.{value_of, place_of}
use Rattle.cf_values.proofs.NumberLemmas.{numbers}
use Rattle.cf_values.proofs.numeral.number.Goals as goal

pub returns-clause-value : goal.returns-clause-value
returns-clause-value c = λ n is. value_of IsNumber numbers c.args.most c.bytes.result.now c.number_of.result c.number_of.ensures.ok c.number_of.ensures.bad n (subst (λ t. IsNumber t n) (sym c.bytes.ensures) is)

pub returns-clause-place : goal.returns-clause-place
returns-clause-place c = λ place refused. place_of IsNumber numbers c.args.most c.bytes.result.now c.number_of.result c.number_of.ensures.ok c.number_of.ensures.bad place (subst (λ t. IsRefused IsNumber c.args.most t place) (sym c.bytes.ensures) refused)
