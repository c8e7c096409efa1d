use Rattle.alias_expand.specs.declared.reading.Reading.{Reading}
use Rattle.alias_expand.proofs.StepLemmas.{does_map}
use Rattle.alias_expand.proofs.WholeLemmas.{begun_met, start_error, start_goes}
use Rattle.alias_expand.proofs.expansion.start.Goals as goal

pub returns-in-Refuses-clause-starts : goal.returns-in-Refuses-clause-starts
returns-in-Refuses-clause-starts g c =
    let a = c.args in
    start_error a.site.now (g.F.Files.seen a.files.now).map a.address.now a.sender.now c.in_ok-resolved.resolved c.in-Refuses.error c.in-Refuses.is c.in_ok-resolved.ensures.route

pub returns-in_ok-add-in-Goes-clause-starts : goal.returns-in_ok-add-in-Goes-clause-starts
returns-in_ok-add-in-Goes-clause-starts g c =
    let a = c.args in
    let new : Reading = record { met = c.add.new.self; selves = a.reading.now.selves; files = a.reading.now.files; rows = a.reading.now.rows } in
    does_map c.lead.result c.lead.new.reading (start_goes a.site.now (g.F.Files.seen a.files.now).map a.address.now a.sender.now c.in_ok-resolved.resolved c.in-Goes.triple new c.in-Goes.is c.in_ok-resolved.ensures.route (begun_met a.reading.now c.add.new.self c.in-Goes.triple c.requires c.in_ok-add-in-Goes.ensures.ok)) c.lead.ensures.leads
