use Rattle.std.proofs.Common.{◌∙◌, sym}
use Rattle.alias_expand.specs.Rows.{read_before, reads_spent}
use Rattle.alias_expand.proofs.StepLemmas.{includes_file, includes_none}
use Rattle.alias_expand.proofs.member.include.Goals as goal

pub returns-then-branch-clause-includes : goal.returns-then-branch-clause-includes
returns-then-branch-clause-includes g c = read_before (sym c.in_ok-has.ensures ∙ c.if-branch.true)

pub returns-then-is_spent-clause-includes : goal.returns-then-is_spent-clause-includes
returns-then-is_spent-clause-includes g c = reads_spent (sym c.in_ok-has.ensures ∙ c.if-branch.false) (sym c.is_spent.ensures ∙ c.if-is_spent.true)

pub returns-in_ok-opened-in-Some-clause-includes : goal.returns-in_ok-opened-in-Some-clause-includes
returns-in_ok-opened-in-Some-clause-includes g c =
    let a = c.args in
    includes_file a.site.now (g.F.Files.seen a.files.now).map a.stand.now a.reading.now a.file.now c.in-Some.content c.in_ok-content.field-0 c.in_ok-opened-in-Some.field-0 c.add.new.self (sym c.in_ok-has.ensures ∙ c.if-branch.false) (sym c.is_spent.ensures ∙ c.if-is_spent.false) c.in-Some.is c.in_ok-content.ensures.text c.in_ok-opened-in-Some.ensures c.in_ok-add-in-Some.ensures.ok

pub returns-in_ok-copy-in-None-clause-includes : goal.returns-in_ok-copy-in-None-clause-includes
returns-in_ok-copy-in-None-clause-includes g c =
    let a = c.args in
    rw c.in_ok-copy-in-None.ensures (includes_none a.site.now (g.F.Files.seen a.files.now).map a.stand.now a.reading.now a.file.now c.in_ok-content.field-0 (sym c.in_ok-has.ensures ∙ c.if-branch.false) (sym c.is_spent.ensures ∙ c.if-is_spent.false) c.in-None.is c.in_ok-content.ensures.text)
