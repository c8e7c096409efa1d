use Rattle.std.proofs.Common.{◌≡◌, true, false, [], refl, sym, ◌∙◌, ap}
use Rattle.mailer_smtp.specs.Plans.{answered, is_sent}
use Rattle.std.specs.List.{list_any}
use Rattle.mailer_smtp.proofs.LineLemmas.{sound_open}
use Rattle.mailer_smtp.proofs.TalkLemmas.{went_as, went_join, went_none}
use Rattle.mailer_smtp.proofs.ConverseLemmas.{over_at, start_go, answered_some, answered_none, started, refused}
use Rattle.mailer_smtp.proofs.converse.send_data.Goals as goal

pub returns-then-not-any_sent-clause-went : goal.returns-then-not-any_sent-clause-went
returns-then-not-any_sent-clause-went g c =
    let rows = c.args.rows.now.items in
    let none : list_any is_sent rows ≡ false = sym (ap (list_any is_sent) c.deref.ensures.value) ∙ sym c.any_sent.ensures ∙ c.if-not-any_sent.true in
    went_as _ _ _ _ _ _ _ _ _ refl (answered_none c.args.speech c.args.kit.now rows none) (went_none _ _ (answered c.args.speech c.args.kit.now rows) _ (sound_open _ _ c.requires.sound))

pub returns-then-not-is_yes-clause-went : goal.returns-then-not-is_yes-clause-went
returns-then-not-is_yes-clause-went g c =
    let rows = c.args.rows.now.items in
    let reply = c.ask-reply.result in
    let some : list_any is_sent rows ≡ true = sym (ap (list_any is_sent) c.deref.ensures.value) ∙ sym c.any_sent.ensures ∙ c.if-not-any_sent.false in
    went_as _ _ _ _ _ _ _ _ _ (sym (answered_some c.args.speech c.args.kit.now rows some)) (refused c.args.speech c.args.kit.now rows reply (sym c.is_yes.ensures ∙ c.if-not-is_yes.true) ∙ over_at reply reply rows rows c.over.new.rows.items [] [] c.over.result refl refl refl c.over.ensures.whole c.over.ensures.items) (c.ask-reply.ensures.went (start_go c.args.speech c.args.kit.now rows))

pub returns-clause-went : goal.returns-clause-went
returns-clause-went g c =
    let rows = c.args.rows.now.items in
    let reply = c.ask-reply.result in
    let some : list_any is_sent rows ≡ true = sym (ap (list_any is_sent) c.deref.ensures.value) ∙ sym c.any_sent.ensures ∙ c.if-not-any_sent.false in
    went_join _ _ _ _ _ _ _ _ _ _ (went_as _ _ _ _ _ _ _ _ _ (sym (answered_some c.args.speech c.args.kit.now rows some)) (started c.args.speech c.args.kit.now rows reply (sym c.is_yes.ensures ∙ c.if-not-is_yes.false)) (c.ask-reply.ensures.went (start_go c.args.speech c.args.kit.now rows))) c.send_text.ensures.went
