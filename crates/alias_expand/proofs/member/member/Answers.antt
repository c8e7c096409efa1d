use Rattle.std.proofs.Common.{◌∙◌, sym}
use Rattle.alias_expand.specs.Rows.{too_deep}
use Rattle.alias_expand.proofs.StepLemmas.{does_map, comes_file, comes_address}
use Rattle.alias_expand.proofs.member.member.Goals as goal

pub returns-then-is_deep-clause-comes : goal.returns-then-is_deep-clause-comes
returns-then-is_deep-clause-comes g c = too_deep c.args.member.now (sym c.is_deep.ensures.is ∙ c.if-is_deep.true)

pub returns-in-Include-clause-comes : goal.returns-in-Include-clause-comes
returns-in-Include-clause-comes g c =
    let a = c.args in
    does_map c.include.result c.include.new.reading (comes_file a.site.now (g.F.Files.seen a.files.now).map a.stand.now a.reading.now a.member.now c.in-Include.file c.in-Include.is (sym c.is_deep.ensures.is ∙ c.if-is_deep.false)) c.include.ensures.includes

pub returns-in-Address-clause-comes : goal.returns-in-Address-clause-comes
returns-in-Address-clause-comes g c =
    let a = c.args in
    does_map c.meet.result c.meet.new.reading (comes_address a.site.now (g.F.Files.seen a.files.now).map a.stand.now a.reading.now a.member.now c.in-Address.text c.in-Address.is (sym c.is_deep.ensures.is ∙ c.if-is_deep.false)) c.meet.ensures.meets
