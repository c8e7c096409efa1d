use Rattle.std.proofs.Common.{ℕ, ◌≤◌, List, false, refl, sym, ◌∙◌, ap, subst, Ok, Err}
use Rattle.std.proofs.lemmas.Result.{err_from_is_err_and}
use Rattle.smtp_receive.specs.Replies.{stored_text}
use Rattle.mail_core.specs.declared.next.Next.TheVariants.{Continue}
use Rattle.mail_made.specs.Messages.{headed, last_id}
use Rattle.mail_core.specs.Seen.{IsSparing}
use Rattle.mail_core.proofs.SpeechLemmas.{told_as}
use Rattle.mail_core.proofs.GoingLemmas.{spoken_of, ungranted}
use Rattle.mail_core.proofs.MessageLemmas.{left_is, message_failed, message_lacked, message_spent, message_stored, moves_done_at, moves_failed_at, rose_of, serves_same, spared_at, spent_is, taken_at, tallies_same, wanting_is}
use Rattle.mail_core.proofs.intake.Intake.accept.Goals as goal

pub returns-in-Err-IdsSpent-clause-accepts : goal.returns-in-Err-IdsSpent-clause-accepts
returns-in-Err-IdsSpent-clause-accepts g c = λ site d clock under way serves number.
    let lacks = c.plan.ensures.spent (c.in-Err-IdsSpent.is ∙ ap (λ e. Err e) c.in-Err-IdsSpent.field-0-is) in
    let next = serves.stores.holds.next in
    message_spent site _ d c.args.message _ _ clock _ _ _ lacks.made (spent_is d.table lacks.made _ next lacks.wanting) (wanting_is d.table lacks.made _ next lacks.few lacks.wanting)
    (λ least. taken_at site c.args.config.now c.args.maps.now _ _ d.table c.args.message lacks.made under next (lacks.taken (subst (λ n. n ≤ last_id) (sym next) least)))

pub returns-in-Err-IdsSpent-clause-tallied : goal.returns-in-Err-IdsSpent-clause-tallied
returns-in-Err-IdsSpent-clause-tallied g c = λ well. tallies_same c.args.self.now.table c.plan.new.self.table _ c.plan.ensures.table c.requires.tallied

-- planning asks nothing of the spool
pub returns-in-Err-SpoolFault : goal.returns-in-Err-SpoolFault
returns-in-Err-SpoolFault g c = absurd (c.plan.ensures.never (c.in-Err-SpoolFault.is ∙ ap (λ e. Err e) c.in-Err-SpoolFault.field-0-is))

pub returns-in-Err-NoMemory : goal.returns-in-Err-NoMemory
returns-in-Err-NoMemory g c = record {
  accepts = λ site d clock under way serves number.
      message_lacked site _ d c.args.message _ _ clock _ _ _ _ (Ok c.lack.result) (spoken_of c.lack.result Continue refl c.lack.ensures.next) (ungranted c.lack.result c.lack.ensures.next)
      (told_as _ _ _ _ _ _ _ number (ap (λ i. i.short) c.plan.ensures.same ∙ serves.short) c.lack.ensures.told) c.lack.ensures.own (serves_same site c.args.self.now c.plan.new.self d.table c.plan.ensures.same c.plan.ensures.table serves) c.lack.ensures.ended;
  moment = ap (λ i. i.moment) c.plan.ensures.same;
  number = c.lack.ensures.number;
  lines = c.lack.ensures.lines;
  sound = c.lack.ensures.sound;
  own = c.lack.ensures.own;
  begun = c.lack.ensures.begun;
  unjudged = refl;
  calm = λ well. refl;
  tallied = λ well. tallies_same c.args.self.now.table c.plan.new.self.table _ c.plan.ensures.table c.requires.tallied;
}

pub returns-in_default-clause-accepts : goal.returns-in_default-clause-accepts
returns-in_default-clause-accepts g c = λ site d clock under way serves number.
    message_lacked site _ d c.args.message _ _ clock _ _ _ _ (Ok c.lack-in_default.result) (spoken_of c.lack-in_default.result Continue refl c.lack-in_default.ensures.next) (ungranted c.lack-in_default.result c.lack-in_default.ensures.next)
    (told_as _ _ _ _ _ _ _ number (ap (λ i. i.short) c.plan.ensures.same ∙ serves.short) c.lack-in_default.ensures.told) c.lack-in_default.ensures.own (serves_same site c.args.self.now c.plan.new.self d.table c.plan.ensures.same c.plan.ensures.table serves) c.lack-in_default.ensures.ended

pub returns-in_default-clause-tallied : goal.returns-in_default-clause-tallied
returns-in_default-clause-tallied g c = λ well. tallies_same c.args.self.now.table c.plan.new.self.table _ c.plan.ensures.table c.requires.tallied

pub accept_planned-requires : goal.accept_planned-requires
accept_planned-requires g c = record {
  agrees = tallies_same c.args.self.now.table c.plan.new.self.table _ c.plan.ensures.table c.requires.tallied;
  planned = record { message = headed c.in-Ok.ensures.is.made.first c.args.message; cuts = c.in-Ok.ensures.is.made.cuts; moment = c.args.self.now.moment; is = c.in-Ok.ensures.is.accepts };
}

pub returns-in_err-accept_planned-clause-accepts : goal.returns-in_err-accept_planned-clause-accepts
returns-in_err-accept_planned-clause-accepts g c = λ site d clock under way serves number.
    let now = serves_same site c.args.self.now c.plan.new.self d.table c.plan.ensures.same c.plan.ensures.table serves in
    let made = c.in-Ok.ensures.is in
    let whole = headed made.made.first c.args.message in
    let p = err_from_is_err_and c.from_residual.result c.from_residual.ensures.1 in
    rw (p.1, p.2) (message_failed site _ d c.args.message _ _ clock made.made (taken_at site c.args.config.now c.args.maps.now _ _ d.table c.args.message made.made under serves.stores.holds.next made.taken) _ _ _ _ (left_is c.plan.new.self.table d.table _ whole made.made c.in-Ok.accepting now.stores.holds made.accepts)
    (moves_failed_at site _ c.args.message made.made _ _ c.plan.new.self.table d.table now.stores
    (c.in_err-accept_planned.ensures.moves d.table whole made.made.cuts _ now.stores.holds made.accepts))
    (subst (λ (q : List (List ℕ)). IsSparing q (g.D.Spool.seen c.args.spool.now) (g.D.Spool.seen c.accept_planned.new.spool) false) now.stores.dirs c.accept_planned.ensures.frame)
    c.accept_planned.ensures.later
    (rose_of site _ d.table _ _ now.stores c.in_err-accept_planned.ensures.cause))

pub returns-clause-accepts : goal.returns-clause-accepts
returns-clause-accepts g c = λ site d clock under way serves number.
    let now = serves_same site c.args.self.now c.plan.new.self d.table c.plan.ensures.same c.plan.ensures.table serves in
    let made = c.in-Ok.ensures.is in
    let whole = headed made.made.first c.args.message in
    let k = c.in_ok-accept_planned.ensures in
    message_stored site _ d c.args.message _ _ clock made.made (taken_at site c.args.config.now c.args.maps.now _ _ d.table c.args.message made.made under serves.stores.holds.next made.taken) _ _ _ _ c.plan.new.self _ c.accept_planned.new.self (Ok c.reply.result) c.in-Ok-stored.text way (left_is c.plan.new.self.table d.table _ whole made.made c.in-Ok.accepting now.stores.holds made.accepts)
    (c.in-Ok-stored.ensures ∙ ap stored_text (c.id.ensures ∙ c.in-Ok.ensures.id ∙ serves.stores.holds.next))
    (moves_done_at site _ c.args.message made.made _ _ c.plan.new.self.table d.table now.stores
    (k.moves d.table whole made.made.cuts _ now.stores.holds made.accepts))
    (spared_at site c.plan.new.self.table c.accept_planned.new.self d.table _ _ now.stores k.stays
    (tallies_same c.args.self.now.table c.plan.new.self.table _ c.plan.ensures.table c.requires.tallied) k.agrees k.frame)
    k.later
    (spoken_of c.reply.result Continue refl c.reply.ensures.next) (ungranted c.reply.result c.reply.ensures.next)
    (told_as _ _ _ _ _ _ _ number refl c.reply.ensures.told) c.reply.ensures.own now refl k.stays k.ok
    (k.holds d.table whole made.made.cuts _ now.stores.holds made.accepts) refl

pub returns-clause-moment : goal.returns-clause-moment
returns-clause-moment g c = ap (λ i. i.moment) c.plan.ensures.same

-- the table has what is told after it
pub returns-clause-tallied : goal.returns-clause-tallied
returns-clause-tallied g c = λ well whole. c.in_ok-accept_planned.ensures.agrees
