use Rattle.std.proofs.Common.{◌≡◌, ◌+◌, ◌*◌, ap, ◌∙◌}
use Rattle.std.specs.Prelude.{unwrap_or, sum_by}
use Rattle.cf_values.specs.Numbers.{value}
use Rattle.cf_values.specs.Times.{pair_seconds, seconds}
use Rattle.cf_values.specs.inner.Stages.{capped}
use Rattle.cf_values.proofs.StandLemmas.{capped-plus, count_or_none}
use Rattle.cf_values.proofs.under_way.UnderWay.total.Goals as goal

pub returns : goal.returns
returns c = λ front stands.
    let t = stands.time in
    let number : c.unwrap_or.result ≡ capped (value t.last) = c.unwrap_or.ensures ∙ ap (λ o. unwrap_or o 0) stands.count ∙ count_or_none t.last in
    c.plus.ensures
    ∙ ap (λ x. capped (x + c.unwrap_or.result * seconds c.args.unit)) stands.seconds
    ∙ ap (λ x. capped (capped (sum_by pair_seconds t.pairs) + x * seconds c.args.unit)) number
    ∙ capped-plus (sum_by pair_seconds t.pairs) (value t.last) c.args.unit
