use Rattle.std.proofs.Common.{None, Ok, ap, arith, refl, sym, ◌∙◌, subst, true, false, [], ◌∷◌, ◌≡◌}
use Rattle.smtp_receive.specs.Dialogue.{exchanges, is_dropped}
use Rattle.smtp_receive.specs.Mails.{deed_of, mail_of}
use Rattle.smtp_receive.specs.Sessions.{Stands as Speaks, question_of}
use Rattle.smtp_receive.proofs.FormLemmas.{given_formed}
use Rattle.smtp_receive.proofs.ToldLemmas.{gift_at_end}
use Rattle.mail_base.specs.Histories.{Gains}
use Rattle.mail_core.specs.declared.next.Next.TheVariants.{Continue, BeginData}
use Rattle.mail_core.specs.Effects.{Sends, HangsUp, heard_of}
use Rattle.mail_core.specs.inner.Going.{AnswersLine}
use Rattle.mail_core.specs.Guests.{is_passed}
use Rattle.mail_core.specs.Judges.{IsAsked, judging}
use Rattle.mail_core.specs.Machine.{answer_by, fresh_start, limit_of}
use Rattle.mail_core.specs.Seen.{seen}
use Rattle.mail_core.proofs.AnswerLemmas.{reply_is, grant_is, bye_is, taken_is, message_is}
use Rattle.mail_core.proofs.FormLemmas.{valid_parts}
use Rattle.mail_core.proofs.MessageLemmas.{dirs_are}
use Rattle.mail_core.proofs.SpeechLemmas.{told_as}
use Rattle.mail_core.proofs.GoingLemmas.{spoken_of, ungranted, granted_on}
use Rattle.mail_core.proofs.LineLemmas.{answers_at, asked_line, fault_calm, given_by_all, lacked_talks, line_said, line_closed, line_judged, line_lacked, line_taken, line_given, not_passed, ready_by, talks_at, unasked_at, unasked_said}
use Rattle.mail_core.proofs.intake.Intake.answer.Goals as goal

pub accept-requires-clause-dirs : goal.accept-requires-clause-dirs
accept-requires-clause-dirs g c = let r = c.requires.ready in dirs_are r.site c.args.self.now.table r.table r.serves.stores

pub accept-requires-clause-valid : goal.accept-requires-clause-valid
accept-requires-clause-valid g c =
    let r = c.requires.ready in
    let d = fresh_start r.table r.guest in
    let a = answers_at (judging (g.J.Judge.seen c.args.judge.now) (g.J.Judge.answers c.args.judge.now)) r.site c.args.config.now c.args.maps.now d c.args.line.now c.args.caller.now c.line.new.self _ r.under r.talks c.in-Ok-Message.ensures.answered in
    λ first cuts header parts. valid_parts c.args.self.now.table.terms c.args.self.now.moment first c.in-Ok-Message.message r.guest.peer cuts r.serves.range r.talks.peer c.has_class.ensures header
    (given_formed r.guest.config r.guest.peer r.guest.heard a.said c.args.line.now (mail_of c.in-Ok-Message.message) r.talks.formed
    (message_is _ _ _ (mail_of c.in-Ok-Message.message) (ap deed_of (sym c.in-Ok-Message.field-0-is) ∙ a.did_is))) parts

pub accept-requires-clause-rows : goal.accept-requires-clause-rows
accept-requires-clause-rows g c =
    let r = c.requires.ready in
    let d = fresh_start r.table r.guest in
    let a = answers_at (judging (g.J.Judge.seen c.args.judge.now) (g.J.Judge.answers c.args.judge.now)) r.site c.args.config.now c.args.maps.now d c.args.line.now c.args.caller.now c.line.new.self _ r.under r.talks c.in-Ok-Message.ensures.answered in
    let form = given_formed r.guest.config r.guest.peer r.guest.heard a.said c.args.line.now (mail_of c.in-Ok-Message.message) r.talks.formed
    (message_is _ _ _ (mail_of c.in-Ok-Message.message) (ap deed_of (sym c.in-Ok-Message.field-0-is) ∙ a.did_is)) in form.rows_form

pub returns-in-Ok-Reply-clause-answers : goal.returns-in-Ok-Reply-clause-answers
returns-in-Ok-Reply-clause-answers g c = λ site d clock under way serves talks.
    let j = judging (g.J.Judge.seen c.args.judge.now) (g.J.Judge.answers c.args.judge.now) in
    let a = answers_at j site c.args.config.now c.args.maps.now d c.args.line.now c.args.caller.now c.line.new.self _ under talks c.in-Ok-Reply.ensures.answered in
    line_said j site c.args.self.now.moment d c.args.line.now a.said c.args.self.now _ _ _ _ clock c.in-Ok-Reply.text false (Ok c.reply.result) a.is_said
    (reply_is site c.args.self.now.moment d (answer_by d a.said c.args.line.now) c.in-Ok-Reply.text (ap deed_of (sym c.in-Ok-Reply.field-0-is) ∙ a.did_is))
    (spoken_of c.reply.result Continue refl c.reply.ensures.next) (λ on. ungranted c.reply.result c.reply.ensures.next)
    (told_as _ _ _ _ _ _ _ talks.number refl c.reply.ensures.told) c.reply.ensures.own serves
    (talks_at j site d c.args.line.now c.args.caller.now _ c.line.new.self _ talks a refl refl _)

pub returns-in-Ok-Reply-clause-ready : goal.returns-in-Ok-Reply-clause-ready
returns-in-Ok-Reply-clause-ready g c = ready_by _ _ _ _ _ _ _ _ _ _ _ c.requires.ready (returns-in-Ok-Reply-clause-answers g c)

pub returns-in-Ok-Granted-clause-answers : goal.returns-in-Ok-Granted-clause-answers
returns-in-Ok-Granted-clause-answers g c = λ site d clock under way serves talks.
    let j = judging (g.J.Judge.seen c.args.judge.now) (g.J.Judge.answers c.args.judge.now) in
    let a = answers_at j site c.args.config.now c.args.maps.now d c.args.line.now c.args.caller.now c.line.new.self _ under talks c.in-Ok-Granted.ensures.answered in
    line_said j site c.args.self.now.moment d c.args.line.now a.said c.args.self.now _ _ _ _ clock c.in-Ok-Granted.text true (Ok c.grant.result) a.is_said
    (grant_is site c.args.self.now.moment d (answer_by d a.said c.args.line.now) c.in-Ok-Granted.text (ap deed_of (sym c.in-Ok-Granted.field-0-is) ∙ a.did_is))
    (spoken_of c.grant.result BeginData refl c.grant.ensures.next) (λ on. granted_on c.grant.result c.grant.ensures.next on)
    (told_as _ _ _ _ _ _ _ talks.number refl c.grant.ensures.told) c.grant.ensures.own serves
    (talks_at j site d c.args.line.now c.args.caller.now _ c.line.new.self _ talks a refl refl _)

pub returns-in-Ok-Granted-clause-ready : goal.returns-in-Ok-Granted-clause-ready
returns-in-Ok-Granted-clause-ready g c = ready_by _ _ _ _ _ _ _ _ _ _ _ c.requires.ready (returns-in-Ok-Granted-clause-answers g c)

pub returns-in-Ok-Bye-clause-answers : goal.returns-in-Ok-Bye-clause-answers
returns-in-Ok-Bye-clause-answers g c = λ site d clock under way serves talks.
    let j = judging (g.J.Judge.seen c.args.judge.now) (g.J.Judge.answers c.args.judge.now) in
    let a = answers_at j site c.args.config.now c.args.maps.now d c.args.line.now c.args.caller.now c.line.new.self _ under talks c.in-Ok-Bye.ensures.answered in
    subst (λ n. AnswersLine j site c.args.self.now.moment d c.args.line.now (seen (g.F.Floor.seen c.args.floor.now) (g.D.Spool.seen c.args.spool.now) clock) (seen (g.F.Floor.seen c.part.new.floor) (g.D.Spool.seen c.args.spool.now) clock) c.args.self.now (record c.args.caller.now { session = c.line.new.self }) (Ok n)) (sym c.part.ensures.next)
    (line_closed j site c.args.self.now.moment d c.args.line.now a.said c.args.self.now (record c.args.caller.now { session = c.line.new.self }) _ _ _ clock c.in-Ok-Bye.text c.part.ensures.told.0 a.is_said
    (bye_is site c.args.self.now.moment d (answer_by d a.said c.args.line.now) c.in-Ok-Bye.text (ap deed_of (sym c.in-Ok-Bye.field-0-is) ∙ a.did_is))
    (subst (λ n. Gains (g.F.Floor.seen c.args.floor.now).told (g.F.Floor.seen c.part.new.floor).told (heard_of (Sends n c.in-Ok-Bye.text c.part.ensures.told.0 ∷ HangsUp n ∷ []))) talks.number c.part.ensures.told.1) c.part.ensures.own serves)

pub returns-in-Ok-Taken-clause-answers : goal.returns-in-Ok-Taken-clause-answers
returns-in-Ok-Taken-clause-answers g c = λ site d clock under way serves talks.
    let j = judging (g.J.Judge.seen c.args.judge.now) (g.J.Judge.answers c.args.judge.now) in
    let a = answers_at j site c.args.config.now c.args.maps.now d c.args.line.now c.args.caller.now c.line.new.self _ under talks c.in-Ok-Taken.ensures.answered in
    line_taken j site c.args.self.now.moment d c.args.line.now a.said c.args.self.now _ _ _ clock way a.is_said
    (taken_is site c.args.self.now.moment d (answer_by d a.said c.args.line.now) (ap deed_of (sym c.in-Ok-Taken.field-0-is) ∙ a.did_is)) serves
    (talks_at j site d c.args.line.now c.args.caller.now _ c.line.new.self _ talks a refl refl _)

pub returns-in-Ok-Taken-clause-ready : goal.returns-in-Ok-Taken-clause-ready
returns-in-Ok-Taken-clause-ready g c = ready_by _ _ _ _ _ _ _ _ _ _ _ c.requires.ready (returns-in-Ok-Taken-clause-answers g c)

pub returns-in-Ok-Message-clause-answers : goal.returns-in-Ok-Message-clause-answers
returns-in-Ok-Message-clause-answers g c = λ site d clock under way serves talks.
    let j = judging (g.J.Judge.seen c.args.judge.now) (g.J.Judge.answers c.args.judge.now) in
    let a = answers_at j site c.args.config.now c.args.maps.now d c.args.line.now c.args.caller.now c.line.new.self _ under talks c.in-Ok-Message.ensures.answered in
    let gives = message_is _ (limit_of d) (answer_by d a.said c.args.line.now) (mail_of c.in-Ok-Message.message) (ap deed_of (sym c.in-Ok-Message.field-0-is) ∙ a.did_is) in
    let ends = gift_at_end d.guest.config d.guest.peer (exchanges d.guest.config d.guest.peer d.guest.heard) a.said c.args.line.now (mail_of c.in-Ok-Message.message) gives in
    let unasked = unasked_at d c.args.line.now ends in
    line_given site c.args.self.now.moment d c.args.line.now c.in-Ok-Message.message j _ _ _ (record c.args.caller.now { session = c.line.new.self }) _ _ (given_by_all d c.args.line.now a.said (mail_of c.in-Ok-Message.message) ends gives)
    unasked talks.formed ends
    (λ id. asked_line j site d c.args.line.now _ a.said id (unasked_said j d c.args.line.now a.said unasked a.is_said) (talks_at j site d c.args.line.now c.args.caller.now (record c.args.caller.now { session = c.line.new.self }) c.line.new.self _ talks a refl refl id))
    c.accept.ensures.number (c.accept.ensures.accepts site d clock under way serves talks.number)

pub returns-in-Ok-Message-clause-ready : goal.returns-in-Ok-Message-clause-ready
returns-in-Ok-Message-clause-ready g c = ready_by _ _ _ _ _ _ _ _ _ _ _ c.requires.ready (returns-in-Ok-Message-clause-answers g c)

-- the judge failed
pub returns-in-Err-FilesFault-clause-answers : goal.returns-in-Err-FilesFault-clause-answers
returns-in-Err-FilesFault-clause-answers g c = λ site d clock under way serves talks.
    let same : d.guest.config ≡ c.args.config.now = talks.config ∙ under.config_is in
    let speaks = subst (λ q. Speaks c.args.caller.now.session q site.host d.guest.peer d.guest.heard) same talks.session in
    line_judged _ site c.args.self.now.moment d c.args.line.now _ _ _ _ clock
    (λ none. fault_calm c.in-Err-FilesFault.field-0 c.in-Err-FilesFault.field-0-is (c.in-Err-FilesFault.ensures.quiet site.host d.guest.peer d.guest.heard speaks (subst (λ q. question_of q d.guest.peer d.guest.heard c.args.line.now ≡ None) same none)))

-- there was no memory
pub returns-in-Err-NoMemory-clause-answers : goal.returns-in-Err-NoMemory-clause-answers
returns-in-Err-NoMemory-clause-answers g c = λ site d clock under way serves talks.
    let same : d.guest.config ≡ c.args.config.now = talks.config ∙ under.config_is in
    let speaks = subst (λ q. Speaks c.args.caller.now.session q site.host d.guest.peer d.guest.heard) same talks.session in
    let kept = not_passed (is_passed d.guest c.args.line.now) _ _ (λ e. c.in-Err-NoMemory.ensures.silent site.host d.guest.peer d.guest.heard speaks (subst (λ q. is_dropped (exchanges q d.guest.peer d.guest.heard) c.args.line.now ≡ true) same e)) in
    line_lacked _ site c.args.self.now.moment d c.args.line.now c.args.self.now _ _ _ _ clock (Ok c.lack.result) kept
    (spoken_of c.lack.result Continue refl c.lack.ensures.next) (λ on. ungranted c.lack.result c.lack.ensures.next)
    (told_as _ _ _ _ _ _ _ talks.number serves.short c.lack.ensures.told) c.lack.ensures.own serves
    (lacked_talks site d c.args.line.now c.args.caller.now _ kept talks c.lack.ensures.number
    (c.lack.ensures.line d.guest.config site.host d.guest.peer d.guest.heard c.args.line.now (subst (λ s. Speaks s d.guest.config site.host d.guest.peer d.guest.heard) (sym c.in-Err-NoMemory.ensures.err) talks.session) kept))

pub returns-in-Err-NoMemory-clause-ready : goal.returns-in-Err-NoMemory-clause-ready
returns-in-Err-NoMemory-clause-ready g c = ready_by _ _ _ _ _ _ _ _ _ _ _ c.requires.ready (returns-in-Err-NoMemory-clause-answers g c)

-- a message isn't judged
pub returns-in-Ok-Message-clause-asked : goal.returns-in-Ok-Message-clause-asked
returns-in-Ok-Message-clause-asked g c =
    let calm = c.in-Ok-Message.ensures.calm refl in
    subst (λ b. IsAsked (judging (g.J.Judge.seen c.args.judge.now) (g.J.Judge.answers c.args.judge.now)) (judging (g.J.Judge.seen c.line.new.judge) (g.J.Judge.answers c.line.new.judge)) b) (sym c.accept.ensures.unjudged)
    (record { steady = c.in-Ok-Message.ensures.steady; later = omega (arith, calm); rose = λ e. absurd (cc e); calm = λ e. calm })
