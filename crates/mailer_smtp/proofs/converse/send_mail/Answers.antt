use Rattle.std.proofs.Common.{◌≡◌, ◌-◌, rules, [], length, drop, refl, sym, ◌∙◌, ap}
use borrow.Rule.Slice.PartMut.{mid_of}
use Rattle.mailer_smtp.specs.Plans.{over, receivers}
use Rattle.mailer_smtp.proofs.TalkLemmas.{went_as, went_join}
use Rattle.mailer_smtp.proofs.ConverseLemmas.{over_at, mail_go, mailed, unmailed, mailing_is, mid_rest}
use Rattle.mailer_smtp.proofs.converse.send_mail.Goals as goal

pub returns-then-not-is_yes-clause-went : goal.returns-then-not-is_yes-clause-went
returns-then-not-is_yes-clause-went g c =
    let kit = c.args.kit.now in
    let reply = c.ask-reply.result in
    went_as _ _ _ _ _ _ _ _ _ (mailing_is c.args.speech kit c.args.eight _ c.mail_text.ensures) (unmailed c.args.speech kit reply (sym c.is_yes.ensures ∙ c.if-not-is_yes.true) ∙ over_at reply reply c.args.rows.now.items [] c.over.new.rows.items c.items.result.now kit.rcpts c.over.result refl c.requires.none c.items.ensures c.over.ensures.whole c.over.ensures.items) (c.ask-reply.ensures.went (mail_go c.args.speech kit))

pub returns-in-None-clause-went : goal.returns-in-None-clause-went
returns-in-None-clause-went g c =
    let kit = c.args.kit.now in
    let reply = c.ask-reply.result in
    went_join _ _ _ _ _ _ _ _ _ _ (went_as _ _ _ _ _ _ _ _ _ (mailing_is c.args.speech kit c.args.eight _ c.mail_text.ensures) (mailed c.args.speech kit reply (sym c.is_yes.ensures ∙ c.if-not-is_yes.false)) (c.ask-reply.ensures.went (mail_go c.args.speech kit)))
    (went_join _ _ _ _ _ _ _ _ _ _ (went_as _ _ _ _ _ _ _ _ _ (ap (receivers c.args.speech kit []) c.items-2.ensures) refl (c.in-None.ensures.went c.args.speech kit)) c.send_data.ensures.went)

pub returns-in-Some-clause-went : goal.returns-in-Some-clause-went
returns-in-Some-clause-went g c =
    let kit = c.args.kit.now in
    let reply = c.ask-reply.result in
    let rows = c.send_rcpts.new.rows.items in
    let xs = c.items-in-Some.result.now in
    let at = c.len-at.result in
    let size : c.len-at.result ≡ length c.send_rcpts.new.rows.items = search rules in
    went_join _ _ _ _ _ _ _ _ _ _ (went_as _ _ _ _ _ _ _ _ _ (mailing_is c.args.speech kit c.args.eight _ c.mail_text.ensures) (mailed c.args.speech kit reply (sym c.is_yes.ensures ∙ c.if-not-is_yes.false)) (c.ask-reply.ensures.went (mail_go c.args.speech kit)))
    (went_as _ _ _ _ _ _ _ _ _ (ap (receivers c.args.speech kit []) c.items-2.ensures) (ap (λ ys. over c.in-Some.reply rows (drop (length rows) ys)) c.items-2.ensures ∙ over_at c.in-Some.reply c.in-Some.reply rows rows c.over-in-Some.new.rows.items (mid_of at (length xs - at) xs) (drop (length rows) kit.rcpts) c.over-in-Some.result refl refl (mid_rest at xs ∙ ap (drop at) c.items-in-Some.ensures ∙ ap (λ n. drop n kit.rcpts) size) c.over-in-Some.ensures.whole c.over-in-Some.ensures.items) (c.in-Some.ensures.went c.args.speech kit))
