use Rattle.std.proofs.Common.{◌∙◌, sym}
use Rattle.alias_expand.proofs.StepLemmas.{does_map, leads_alias, leads_forward, leads_leaf}
use Rattle.alias_expand.proofs.lead.lead.Goals as goal

pub returns-in-Some-clause-leads : goal.returns-in-Some-clause-leads
returns-in-Some-clause-leads g c =
    let a = c.args in
    leads_alias a.site.now (g.F.Files.seen a.files.now).map a.spot.level a.spot.sender.now a.spot.text.now a.triple a.reading.now c.in_ok-under_alias.field-0 c.in-Some.members.now (sym c.in-Some.ensures) c.in_ok-under_alias.ensures.0 c.in_ok-under_alias.ensures.1

pub returns-in-Some-2-clause-leads : goal.returns-in-Some-2-clause-leads
returns-in-Some-2-clause-leads g c =
    let a = c.args in
    does_map c.forward.result c.forward.new.reading (leads_forward a.site.now (g.F.Files.seen a.files.now).map a.spot.level a.spot.sender.now a.spot.text.now a.triple a.reading.now c.in_ok-resolved.resolved c.in-Some-2.file (sym c.in_default.ensures) c.in_ok-resolved.ensures.route (sym c.in_ok-file.ensures ∙ c.in-Some-2.is)) c.forward.ensures.forwards

pub returns-in-None-clause-leads : goal.returns-in-None-clause-leads
returns-in-None-clause-leads g c =
    let a = c.args in
    does_map c.leaf.result c.leaf.new.reading (leads_leaf a.site.now (g.F.Files.seen a.files.now).map a.spot.level a.spot.sender.now a.spot.text.now a.triple a.reading.now c.in_ok-resolved.resolved (sym c.in_default.ensures) c.in_ok-resolved.ensures.route (sym c.in_ok-file.ensures ∙ c.in-None.is)) c.leaf.ensures.comes
