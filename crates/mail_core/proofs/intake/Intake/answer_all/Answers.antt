use Rattle.std.proofs.Common.{◌≡◌, Ok, Err, true, false, refl, sym, ◌∙◌, subst}
use Rattle.std.proofs.lemmas.Result.{err_from_is_err_and}
use Rattle.mail_core.specs.inner.Going.{stays_open}
use Rattle.link_edge.specs.Heard.{IsSoundAt}
use Rattle.mail_core.specs.declared.next.Next.{Next}
use Rattle.mail_core.specs.Causes.{is_judge_fault}
use Rattle.mail_core.specs.Judges.{judging}
use Rattle.mail_core.proofs.JudgeLemmas.{asked_join, asked_none}
use Rattle.mail_core.proofs.FeedLemmas.{answers_none, answers_next, answers_cut, answers_all}
use Rattle.mail_core.proofs.intake.Intake.answer_all.Goals as goal

pub loop-line-init : goal.loop-line-init
loop-line-init g c = record {
  answers = λ site d clock under way serves talks only first. answers_none _ site c.args.self.now.moment d (g.F.Floor.seen c.args.floor.now) (g.D.Spool.seen c.args.spool.now) clock c.args.self.now c.args.caller.now way serves talks;
  onward = refl;
  ready = c.requires.ready;
  moment = refl;
  number = refl;
  reader = refl;
  asked = asked_none (judging (g.J.Judge.seen c.args.judge.now) (g.J.Judge.answers c.args.judge.now));
  fixed = refl;
  own = refl;
  begun = refl;
  calm = refl;
  tallied = c.requires.tallied;
  sound = c.requires.sound;
}

pub loop-line-preserved : goal.loop-line-preserved
loop-line-preserved g c =
    let h = c.loop-line.invariant in
    let k = c.in_ok-last.ensures in
    let on : stays_open c.in_ok-last.last ≡ true = sym c.stays_open.ensures ∙ c.if-not-stays_open.false in record {
      answers = λ site d clock under way serves talks only first.
          answers_next _ site c.args.self.now.moment d c.loop-line.self c.answer.new.self c.loop-line.caller c.answer.new.caller (Ok c.loop-line.last) (Ok c.in_ok-last.last) _ c.line-item.result _ c.loop-line.self.moment c.args.lines.now c.loop-line.line-index _ _ _
          h.asked.steady c.loop-line-test.true c.line-item.is refl only first h.moment h.onward (h.answers site d clock under way serves talks only first) (λ e. k.answers site e clock under);
      onward = on;
      ready = k.ready on;
      moment = k.moment ∙ h.moment;
      number = k.number ∙ h.number;
      reader = k.lines ∙ h.reader;
      asked = asked_join _ _ _ false h.asked k.asked;
      fixed = k.fixed ∙ h.fixed;
      own = k.own ∙ h.own;
      begun = k.begun ∙ h.begun;
      calm = k.calm (refl) ∙ h.calm;
      tallied = k.tallied (refl);
      sound = subst (IsSoundAt (g.F.Floor.seen c.answer.new.floor)) h.number (k.sound on);
    }

pub returns-then-not-stays_open-clause-answers : goal.returns-then-not-stays_open-clause-answers
returns-then-not-stays_open-clause-answers g c = λ site d clock under way serves talks only first.
    let h = c.loop-line.invariant in
    let k = c.in_ok-last.ensures in
    let off : stays_open c.in_ok-last.last ≡ false = sym c.stays_open.ensures ∙ c.if-not-stays_open.true in
    answers_cut _ site c.args.self.now.moment d _ c.args.lines.now _ _ c.answer.new.self c.answer.new.caller (Ok c.in_ok-last.last) off
    (answers_next _ site c.args.self.now.moment d c.loop-line.self c.answer.new.self c.loop-line.caller c.answer.new.caller (Ok c.loop-line.last) (Ok c.in_ok-last.last) _ c.line-item.result _ c.loop-line.self.moment c.args.lines.now c.loop-line.line-index _ _ _
    h.asked.steady c.loop-line-test.true c.line-item.is refl only first h.moment h.onward (h.answers site d clock under way serves talks only first) (λ e. k.answers site e clock under))

-- the run ended
pub returns-in_err-last-clause-answers : goal.returns-in_err-last-clause-answers
returns-in_err-last-clause-answers g c = λ site d clock under way serves talks only first.
    let h = c.loop-line.invariant in
    let k = c.in_err-last.ensures in
    let p = err_from_is_err_and c.from_residual.result c.from_residual.ensures.1 in
    rw (p.1, p.2) (answers_cut _ site c.args.self.now.moment d _ c.args.lines.now _ _ c.answer.new.self c.answer.new.caller (Err c.in_err-last.field-0.0) refl
    (answers_next _ site c.args.self.now.moment d c.loop-line.self c.answer.new.self c.loop-line.caller c.answer.new.caller (Ok c.loop-line.last) (Err c.in_err-last.field-0.0) _ c.line-item.result _ c.loop-line.self.moment c.args.lines.now c.loop-line.line-index _ _ _
    h.asked.steady c.loop-line-test.true c.line-item.is refl only first h.moment h.onward (h.answers site d clock under way serves talks only first) (λ e. k.answers site e clock under)))

pub returns-clause-answers : goal.returns-clause-answers
returns-clause-answers g c = λ site d clock under way serves talks only first.
    answers_all _ site c.args.self.now.moment d c.args.lines.now c.loop-line.line-index _ _ c.loop-line.self c.loop-line.caller (Ok c.loop-line.last) c.loop-line-test.false (c.loop-line.invariant.answers site d clock under way serves talks only first)

pub returns-then-not-stays_open-clause-calm : goal.returns-then-not-stays_open-clause-calm
returns-then-not-stays_open-clause-calm g c = λ well. c.in_ok-last.ensures.calm well ∙ c.loop-line.invariant.calm

pub returns-clause-calm : goal.returns-clause-calm
returns-clause-calm g c = λ well. c.loop-line.invariant.calm

-- the judge was asked in turn
pub returns-then-not-stays_open-clause-asked : goal.returns-then-not-stays_open-clause-asked
returns-then-not-stays_open-clause-asked g c = asked_join _ _ _ false c.loop-line.invariant.asked c.in_ok-last.ensures.asked

pub returns-in_err-last-clause-asked : goal.returns-in_err-last-clause-asked
returns-in_err-last-clause-asked g c =
    let p = err_from_is_err_and c.from_residual.result c.from_residual.ensures.1 in
    rw (p.1, p.2) (asked_join _ _ _ (is_judge_fault {T = Next} (Err c.in_err-last.field-0.0)) c.loop-line.invariant.asked c.in_err-last.ensures.asked)
