-- A count that is there is written in its place.
use Rattle.std.proofs.Common.{◌≡◌, subst}
use Rattle.std.specs.Prelude.{OnSome}
use Rattle.mail_base.specs.Catalogs.{with_value}
use Rattle.mail_core.proofs.fixed.put.Goals as goal

pub returns-in-Some : goal.returns-in-Some
returns-in-Some c =
    let new = c.get_mut.follows.lender c.args.count in
    subst (λ lent. OnSome lent (new ≡ with_value c.args.lane.now c.args.count c.args.counts.now)) c.in-Some.is (c.get_mut.follows.holds c.args.count)
