use Rattle.std.proofs.Common.{◌≡◌, ◌*◌, ap, arith}
use Rattle.cf_values.specs.Times.{seconds}
use Rattle.cf_values.specs.inner.Stages.{capped}
use Rattle.cf_values.proofs.under_way.plus.Goals as goal

pub returns : goal.returns
unfolding capped
returns c =
    let product : c.args.count * c.seconds.result ≡ c.args.count * seconds c.args.unit = ap (λ s. c.args.count * s) c.seconds.ensures in
    omega (arith, product)
