-- A recipient that isn't asked for, one without a whole reply, and one with it.
use Rattle.std.proofs.Common.{◌≡◌, true, false, [], ◌∷◌, ◌++◌, refl, sym, ◌∙◌, ap}
use Rattle.mailer_smtp.specs.Plans.{is_whole, receivers}
use Rattle.mailer_smtp.proofs.LineLemmas.{sound_open}
use Rattle.mailer_smtp.proofs.TalkLemmas.{went_as, went_none}
use Rattle.mailer_smtp.proofs.ConverseLemmas.{rcpt_go, rcpt_asked, rcpt_unsaid, rcpt_lost, rcpt_heard}
use Rattle.mailer_smtp.proofs.converse.send_rcpt.Goals as goal

pub returns-in-None-clause-went : goal.returns-in-None-clause-went
returns-in-None-clause-went g c = λ speech kit left. went_as _ _ _ _ _ _ _ _ _ refl (rcpt_unsaid speech kit _ _ _ left c.in-None.is (c.push_reserved.ensures.items ∙ ap (λ x. c.args.rows.now.items ++ x ∷ []) c.unsaid.ensures)) (went_none _ _ (receivers speech kit _ (c.args.rcpt.now ∷ left)) _ (sound_open _ _ c.requires.sound))

pub returns-then-not-is_whole-clause-went : goal.returns-then-not-is_whole-clause-went
returns-then-not-is_whole-clause-went g c = λ speech kit left.
    let rows = c.args.rows.now.items in
    let line = c.in-Some.text in
    let lost : is_whole c.ask-reply.result ≡ false = sym c.is_whole.ensures ∙ c.if-not-is_whole.true in
    went_as _ _ _ _ _ _ _ _ _ (rcpt_asked speech kit rows _ line left c.in-Some.is) (rcpt_lost speech kit rows _ line left c.ask-reply.result c.in-Some.is lost) (c.ask-reply.ensures.went (rcpt_go speech kit rows line left))

pub returns-else-not-is_whole-clause-went : goal.returns-else-not-is_whole-clause-went
returns-else-not-is_whole-clause-went g c = λ speech kit left.
    let rows = c.args.rows.now.items in
    let line = c.in-Some.text in
    let heard : is_whole c.ask-reply.result ≡ true = sym c.is_whole.ensures ∙ c.if-not-is_whole.false in
    went_as _ _ _ _ _ _ _ _ _ (rcpt_asked speech kit rows _ line left c.in-Some.is) (rcpt_heard speech kit rows _ line left c.ask-reply.result heard (c.push_reserved-in-Some.ensures.items ∙ ap (λ x. rows ++ x ∷ []) c.result_of.ensures)) (c.ask-reply.ensures.went (rcpt_go speech kit rows line left))
