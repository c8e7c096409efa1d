-- What the definition has, the result has.
use Rattle.std.proofs.Common.{◌≡◌, ◌<◌, ◌≤◌, List, length, sym, subst}
use Rattle.std.specs.Prelude.{All}
use Rattle.mail_base.specs.declared.message.Cut.{Cut}
use Rattle.queue_plan.specs.Parts.{IsPart, parts_of}
use Rattle.queue_plan.proofs.CountLemmas.{few_parts}
use Rattle.queue_plan.proofs.FitLemmas.{each_part, first_part, if_ok}
use Rattle.queue_plan.proofs.parting.parts.Goals as goal

pub returns-clause-some : goal.returns-clause-some
returns-clause-some c = λ some.
    let a = c.args in
    if_ok (λ (cuts : List Cut). cuts ≡ parts_of a.config.now a.rows.now a.groups.now) (λ (cuts : List Cut). 0 < length cuts)
    (λ cuts is. subst (λ (q : List Cut). 0 < length q) (sym is) (first_part a.config.now a.rows.now a.groups.now c.requires.placed some)) c.parted.result c.parted.ensures

pub returns-clause-few : goal.returns-clause-few
returns-clause-few c =
    let a = c.args in
    if_ok (λ (cuts : List Cut). cuts ≡ parts_of a.config.now a.rows.now a.groups.now) (λ (cuts : List Cut). length cuts ≤ length a.rows.now)
    (λ cuts is. subst (λ (q : List Cut). length q ≤ length a.rows.now) (sym is) (few_parts a.config.now a.rows.now a.groups.now)) c.parted.result c.parted.ensures

pub returns-clause-each : goal.returns-clause-each
returns-clause-each c = λ few rows groups.
    let a = c.args in
    if_ok (λ (cuts : List Cut). cuts ≡ parts_of a.config.now a.rows.now a.groups.now) (λ (cuts : List Cut). All IsPart cuts)
    (λ cuts is. subst (All IsPart) (sym is) (each_part a.config.now a.rows.now a.groups.now few rows groups)) c.parted.result c.parted.ensures
