use Rattle.std.proofs.Common.{◌≡◌, ◌+◌, ◌*◌, ap, ◌∙◌, arith}
use Rattle.std.specs.Prelude.{unwrap_or}
use Rattle.cf_values.specs.inner.Stages.{capped}
use Rattle.cf_values.proofs.StandLemmas.{stands_digit, stands_letter, stuck_other, stuck_bare}
use Rattle.cf_values.proofs.under_way.UnderWay.with.Goals as goal

pub returns-in-Some : goal.returns-in-Some
unfolding capped
returns-in-Some c = λ front stands.
    let is = c.in-Some.ensures.some in
    let counted : c.with_digit-count.result ≡ capped (unwrap_or c.args.self.count 0 * 10 + c.in-Some.digit) = c.with_digit-count.ensures ∙ ap (λ n. capped (n * 10 + c.in-Some.digit)) c.unwrap_or.ensures in
    stands_digit c.args.self front c.args.byte c.in-Some.digit c.with_digit-count.result stands (omega (arith, is.0), omega (arith, is.0, is.1)) is.0 counted

pub returns-in_err-unit : goal.returns-in_err-unit
returns-in_err-unit c = λ front stands. rw c.from_residual.ensures (stuck_other c.args.self front c.args.byte stands c.in_default.ensures.none c.in_err-unit.ensures.none)

pub returns-in_err-count : goal.returns-in_err-count
returns-in_err-count c = λ front stands. rw c.from_residual-in_err-count.ensures (stuck_bare c.args.self front c.args.byte stands c.in_default.ensures.none c.in_err-count.was)

pub returns : goal.returns
returns c = λ front stands. stands_letter c.args.self front c.args.byte c.in_ok-count.count c.plus.result c.in_ok-unit.unit stands c.in_ok-unit.ensures.some c.in_ok-count.was c.plus.ensures
