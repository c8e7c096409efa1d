-- The rows have their groups, and are parted by them.
use Rattle.std.proofs.Common.{List, subst}
use Rattle.mail_base.specs.declared.draw.Draw.{Draw}
use Rattle.queue_plan.specs.Cuts.{AreGrouped}
use Rattle.queue_plan.proofs.CutLemmas.{forms_by, groups_long, parted_by}
use Rattle.queue_plan.proofs.cutting.cuts.Goals as goal

pub parts-requires : goal.parts-requires
parts-requires c =
    let a = c.args in
    record { placed = groups_long a.config.now a.maps.now a.macros.now a.rows.now c.in_ok-groups.groups (subst (λ (q : List Draw). AreGrouped a.config.now a.maps.now a.macros.now q c.in_ok-groups.groups) c.items.ensures c.in_ok-groups.ensures.are) }

pub returns-clause-is : goal.returns-clause-is
returns-clause-is c =
    let a = c.args in
    parted_by a.config.now a.maps.now a.macros.now a.rows.now c.in_ok-groups.groups c.parts.result
    (subst (λ (q : List Draw). AreGrouped a.config.now a.maps.now a.macros.now q c.in_ok-groups.groups) c.items.ensures c.in_ok-groups.ensures.are) c.parts.ensures.is

pub returns-clause-form : goal.returns-clause-form
returns-clause-form c =
    let rows = c.requires in
    forms_by c.args.rows.now c.parts.result rows (c.parts.ensures.some rows.some) c.parts.ensures.few (c.parts.ensures.each rows.few rows.each c.in_ok-groups.ensures.lines)
