use Rattle.std.proofs.Common.{◌≡◌, ℕ, List}
use Rattle.mail_base.specs.declared.route.Resolved.TheVariants.{Refuses}
use Rattle.alias_expand.specs.Rows.{Act, added, row_at}
use Rattle.alias_expand.specs.inner.Steps.{Does}
use Rattle.alias_expand.proofs.StepLemmas.{does_map, meets_error, meets_met, spotted}
use Rattle.alias_expand.proofs.member.meet.Goals as goal

pub returns-in-Refuses-clause-meets : goal.returns-in-Refuses-clause-meets
returns-in-Refuses-clause-meets g c =
    let a = c.args in
    does_map c.add_row.result c.add_row.new.reading (meets_error a.site.now (g.F.Files.seen a.files.now).map a.stand.now a.reading.now a.text.now c.in_ok-resolved.resolved c.in-Refuses.error c.in-Refuses.is c.in_ok-resolved.ensures.route)
    (spotted (λ (l : ℕ) (s t : List ℕ). Does c.add_row.result c.add_row.new.reading (λ (act : Act). act ≡ added (row_at l s t (Refuses c.in-Refuses.error)) a.reading.now)) _ _ _ _ _ _ c.spot.ensures.level c.spot.ensures.sender c.spot.ensures.text c.add_row.ensures.comes)

pub returns-in-Goes-clause-meets : goal.returns-in-Goes-clause-meets
returns-in-Goes-clause-meets g c =
    let a = c.args in
    does_map c.met.result c.met.new.reading (meets_met a.site.now (g.F.Files.seen a.files.now).map a.stand.now a.reading.now a.text.now c.in_ok-resolved.resolved c.in-Goes.triple c.in-Goes.is c.in_ok-resolved.ensures.route) c.met.ensures.meets
