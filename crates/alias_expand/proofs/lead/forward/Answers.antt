use Rattle.std.proofs.Common.{◌∙◌, sym, subst, Bool}
use Rattle.mail_edge.specs.Asking.{Asks}
use Rattle.alias_expand.specs.Rows.{spent}
use Rattle.alias_expand.proofs.StepLemmas.{does_map, forwards_absent, forwards_there}
use Rattle.alias_expand.proofs.lead.forward.Goals as goal

pub returns-then-is_spent-clause-forwards : goal.returns-then-is_spent-clause-forwards
returns-then-is_spent-clause-forwards g c = spent c.args.file.now (sym c.is_spent.ensures ∙ c.if-is_spent.true)

pub returns-in_ok-under_user-in-Some-clause-forwards : goal.returns-in_ok-under_user-in-Some-clause-forwards
returns-in_ok-under_user-in-Some-clause-forwards g c =
    let a = c.args in
    forwards_there a.site.now (g.F.Files.seen a.files.now).map a.spot.level a.spot.sender.now a.spot.text.now a.triple a.reading.now a.resolved a.file.now c.in-Some.content c.in_ok-found.found c.in_ok-under_user-in-Some.field-0 c.add.new.self (sym c.is_spent.ensures ∙ c.if-is_spent.false) c.in-Some.is c.in_ok-found.ensures.text c.in_ok-under_user-in-Some.ensures c.in_ok-add.ensures.ok

pub returns-in-None-clause-forwards : goal.returns-in-None-clause-forwards
returns-in-None-clause-forwards g c =
    let a = c.args in
    does_map c.leaf.result c.leaf.new.reading (forwards_absent a.site.now (g.F.Files.seen a.files.now).map a.spot.level a.spot.sender.now a.spot.text.now a.triple a.reading.now a.resolved a.file.now c.in_ok-found.found c.add.new.self (sym c.is_spent.ensures ∙ c.if-is_spent.false) c.in-None.is c.in_ok-found.ensures.text c.in_ok-add.ensures.ok) c.leaf.ensures.comes

pub returns-in-None-clause-asks : goal.returns-in-None-clause-asks
returns-in-None-clause-asks g c = subst (λ (b : Bool). Asks (g.F.Files.seen c.args.files.now) (g.F.Files.seen c.read_file.new.files) b) (sym c.leaf.ensures.calm) c.in_ok-found.ensures.asks
