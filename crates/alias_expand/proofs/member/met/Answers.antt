use Rattle.std.proofs.Common.{◌∙◌, ℕ, List, sym, ap}
use Rattle.mail_base.specs.declared.route.Triple.{Triple}
use Rattle.alias_expand.specs.Rows.{Leads, met_before}
use Rattle.alias_expand.specs.declared.reading.Reading.{Reading}
use Rattle.alias_expand.specs.inner.Steps.{Does}
use Rattle.alias_expand.proofs.StepLemmas.{does_map, met_first, met_itself, spotted}
use Rattle.alias_expand.proofs.member.met.Goals as goal

pub returns-then-branch-clause-meets : goal.returns-then-branch-clause-meets
returns-then-branch-clause-meets g c =
    let a = c.args in
    does_map c.itself.result c.itself.new.reading (met_itself a.site.now (g.F.Files.seen a.files.now).map a.stand.now a.reading.now a.text.now a.triple (sym c.in_ok-is_itself.ensures ∙ c.if-branch.true)) c.itself.ensures.comes

pub returns-then-branch-2-clause-meets : goal.returns-then-branch-2-clause-meets
returns-then-branch-2-clause-meets g c = λ goes. met_before c.args.triple goes (sym c.in_ok-is_itself.ensures ∙ c.if-branch.false) (sym c.in_ok-has.ensures ∙ c.if-branch-2.true)

pub returns-clause-meets : goal.returns-clause-meets
returns-clause-meets g c =
    let a = c.args in
    let new : Reading = record { met = c.add.new.self; selves = a.reading.now.selves; files = a.reading.now.files; rows = a.reading.now.rows } in
    does_map c.lead.result c.lead.new.reading (met_first a.site.now (g.F.Files.seen a.files.now).map a.stand.now a.reading.now a.text.now a.triple new (sym c.in_ok-is_itself.ensures ∙ c.if-branch.false) (sym c.in_ok-has.ensures ∙ c.if-branch-2.false) (ap (λ (m : List Triple). record a.reading.now { met = m }) c.in_ok-add.ensures.ok))
    (spotted (λ (l : ℕ) (s t : List ℕ). Does c.lead.result c.lead.new.reading (Leads a.site.now (g.F.Files.seen a.files.now).map l s t a.triple new)) _ _ _ _ _ _ c.spot.ensures.level c.spot.ensures.sender c.spot.ensures.text c.lead.ensures.leads)
