-- What is made of the message is planned.
use Rattle.std.proofs.Common.{List, subst, sym, ◌∙◌, arith}
use Rattle.mail_base.specs.declared.message.Cut.{Cut}
use Rattle.mail_base.specs.declared.message.Message.{Message}
use Rattle.queue_table.specs.Calls.{AreValid}
use Rattle.queue_table.specs.Soundness.{AreCuts}
use Rattle.mail_made.specs.Messages.{IsMessageMade}
use Rattle.mail_made.proofs.FormLemmas.{parts_are}
use Rattle.mail_made.proofs.PartLemmas.{lacks_all, lacks_some}
use Rattle.mail_made.proofs.plan.planned.Goals as goal

pub plan_accept-requires-clause-cuts : goal.plan_accept-requires-clause-cuts
plan_accept-requires-clause-cuts c = subst AreCuts (sym c.items.ensures) (parts_are c.in_ok-message.cuts c.in_ok-message.ensures.form)

-- the parts stand as those that were asked about
pub plan_accept-requires-clause-valid : goal.plan_accept-requires-clause-valid
plan_accept-requires-clause-valid c =
    let m = c.in_ok-message.ensures.is in
    subst (λ (q : List Cut). AreValid c.args.table.now.terms c.in_ok-message.message c.args.moment q) (sym c.items.ensures)
    (subst (λ (q : Message). AreValid c.args.table.now.terms q c.args.moment c.in_ok-message.cuts) (sym m.is) (c.requires.valid m.first c.in_ok-message.cuts m.header c.in_ok-message.ensures.form.each))

-- no id is left, or fewer than parts
pub returns-then-next-gt-MOST-clause-spent : goal.returns-then-next-gt-MOST-clause-spent
returns-then-next-gt-MOST-clause-spent c = λ e.
    let past = c.if-next-gt-MOST.true in
    let next = c.next-next.ensures in lacks_all c.args.config.now c.args.maps.now c.args.moment _ c.args.message (omega (arith, past, next))

pub returns-clause-spent : goal.returns-clause-spent
returns-clause-spent c = λ e.
    lacks_some c.args.config.now c.args.maps.now c.args.moment _ c.args.message c.in_ok-message.message c.in_ok-message.cuts c.items.result.now
    (subst (λ n. IsMessageMade c.args.config.now c.args.maps.now c.args.moment c.args.message n c.in_ok-message.message c.in_ok-message.cuts) (c.new.ensures ∙ c.next-next.ensures) c.in_ok-message.ensures.is)
    c.in_ok-message.ensures.form c.items.ensures (c.plan_accept.ensures.spent.0 e)
