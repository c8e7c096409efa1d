use Rattle.std.proofs.Common.{List, Option, sym, ◌∙◌, ap, subst}
use Rattle.std.specs.Prelude.{◌||◌}
use Rattle.std.specs.Option.{option_copied}
use Rattle.mail_base.specs.declared.class.Member.{Member}
use Rattle.mail_base.specs.Catalogs.{value_at, members_of}
use Rattle.rule_match.specs.Wants.{Phrase, want}
use Rattle.rule_match.specs.inner.Rows.{has, IsStart}
use Rattle.rule_match.specs.inner.Steps.{class_of}
use Rattle.rule_match.proofs.Fitting.{choosing_is, other_fixed}
use Rattle.rule_match.proofs.Rowing.{start_any, start_more, start_none, start_found, start_fixed}
use Rattle.rule_match.proofs.rows.is_start.Goals as goal

pub returns-then-later : goal.returns-then-later
returns-then-later g c = rw c.in-Any.is (λ known.
    start_any c.args.left.now c.args.place c.args.after.now c.args.later known c.args.later (ap (λ b. b || has c.args.after.now c.args.place) c.if-later.true ∙ sym c.if-later.true))

pub returns-else-later : goal.returns-else-later
returns-else-later g c = rw c.in-Any.is (λ known.
    start_any c.args.left.now c.args.place c.args.after.now c.args.later known c.has.result (ap (λ b. b || has c.args.after.now c.args.place) c.if-later.false ∙ sym c.has.ensures))

pub returns-in-More : goal.returns-in-More
returns-in-More g c = rw c.in-More.is (λ known. start_more c.args.left.now c.args.place c.args.after.now c.args.later known)

pub returns-then-later-2 : goal.returns-then-later-2
returns-then-later-2 g c = rw c.in-InClass.is (λ known.
    let class = c.requires.class ∙ ap (class_of c.args.classes.now) c.in-InClass.is in
    subst (λ (there : Option (List Member)). IsStart (Phrase (members_of there)) c.args.left.now c.args.place c.args.after.now c.is_some.result) class
    (start_found c.args.left.now c.args.place c.args.after.now (members_of (option_copied c.args.class)) c.phrase_length.result c.phrase_length.ensures.some c.phrase_length.ensures.none c.is_some.result c.is_some.ensures))

pub returns-else-later-2 : goal.returns-else-later-2
returns-else-later-2 g c = rw c.in-InClass.is (λ known.
    let members = members_of (value_at c.in-InClass.field-0 c.args.classes.now) in
    subst (IsStart (Phrase members) c.args.left.now c.args.place c.args.after.now) (sym c.if-later-2.false) (start_none c.args.left.now c.args.place c.args.after.now c.args.later known members c.if-later-2.false))

pub returns-in_default : goal.returns-in_default
returns-in_default g c = λ known.
    let free = other_fixed c.args.item.now c.in_default.not-Any c.in_default.not-More c.in_default.not-InClass in
    start_fixed c.args.left.now c.args.place c.args.after.now (want c.args.classes.now c.args.late.now c.args.item.now) (choosing_is c.args.classes.now c.args.late.now c.args.item.now ∙ free) c.is_fixed_start.result (sym c.is_fixed_start.ensures)
