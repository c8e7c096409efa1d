use Rattle.std.proofs.Common.{◌≡◌, [], Ok, Err, true, false, refl, sym, ◌∙◌, ap, subst}
use Rattle.std.proofs.lemmas.Bool.{false≢true}
use Rattle.std.proofs.lemmas.Result.{err_from_is_err_and}
use Rattle.smtp_lines.specs.Reader.{Reader, asked_after}
use Rattle.smtp_lines.proofs.RunLemmas.{asked_after-turns}
use Rattle.mail_core.specs.inner.Going.{is_granted, stays_open}
use Rattle.link_edge.specs.Heard.{IsSoundAt}
use Rattle.mail_core.specs.declared.next.Next.{Next}
use Rattle.mail_core.specs.Causes.{is_judge_fault}
use Rattle.mail_core.specs.Judges.{judging}
use Rattle.mail_core.proofs.JudgeLemmas.{asked_join, asked_none}
use Rattle.mail_core.proofs.FeedLemmas.{pends_start, pends_more, batch_of, feeds_none, feeds_cut, feeds_lost, feeds_all, ready_lines, turned_left, turned_lines}
use Rattle.mail_core.proofs.intake.Intake.feed.Goals as goal

pub returns-in_default-clause-feeds : goal.returns-in_default-clause-feeds
returns-in_default-clause-feeds g c = λ site table guest clock under serves keeps.
    let d = c.drop_caller.ensures in
    feeds_none _ site c.args.self.now.moment table guest c.args.piece.now (g.F.Floor.seen c.args.floor.now) (g.F.Floor.seen c.drop_caller.new.floor) (g.D.Spool.seen c.args.spool.now) clock c.args.self.now c.args.caller.now _ (Ok c.drop_caller.result) c.args.caller.now.number keeps refl d.told d.own (ap (λ n. Ok n) d.next) serves

pub answers-init : goal.answers-init
answers-init g c =
    let old = c.args.caller.now.lines in
    let piece = c.args.piece.now in
    let lines = c.in-Ok.given in
    let k = c.in-Ok.ensures in record {
      pends = λ site table guest clock under serves keeps.
          pends_start _ site c.args.self.now.moment table guest piece c.args.caller.now _ c.args.self.now (g.F.Floor.seen c.args.floor.now) (g.D.Spool.seen c.args.spool.now) clock lines refl refl serves keeps k.stands k.turns;
      turns = λ asking. k.turns ∙ asked_after-turns old.under.may_turn lines asking;
      all = k.all;
      ready = ready_lines c.args.self.now c.args.config.now c.args.maps.now c.args.caller.now _ refl refl c.requires.ready;
      moment = refl;
      asked = asked_none (judging (g.J.Judge.seen c.args.judge.now) (g.J.Judge.answers c.args.judge.now));
      fixed = refl;
      own = refl;
      begun = refl;
      calm = refl;
      tallied = c.requires.tallied;
      sound = c.requires.sound;
    }

-- the run ended
pub returns-in_err-next-clause-feeds : goal.returns-in_err-next-clause-feeds
returns-in_err-next-clause-feeds g c = λ site table guest clock under serves keeps.
    let h = c.answers.invariant in
    let k = c.in_err-next.ensures in
    let batch =
    batch_of _ site c.args.self.now.moment table guest c.args.piece.now _ c.answers.self.moment _ _ _ c.answers.self c.answer_all.new.self c.answers.caller c.answer_all.new.caller c.items-in-answers.result.now c.answers.lines (Err c.in_err-next.field-0.0)
    h.asked.steady c.items-in-answers.ensures h.moment (h.pends site table guest clock under serves keeps) (λ d. k.answers site d clock under) in
    let p = err_from_is_err_and c.from_residual.result c.from_residual.ensures.1 in
    rw (p.1, p.2) (feeds_cut _ site c.args.self.now.moment table guest c.args.piece.now _ _ _ c.answers.lines c.answer_all.new.self c.answer_all.new.caller (Err c.in_err-next.field-0.0) batch refl)

pub returns-then-not-stays_open-clause-feeds : goal.returns-then-not-stays_open-clause-feeds
returns-then-not-stays_open-clause-feeds g c = λ site table guest clock under serves keeps.
    let h = c.answers.invariant in
    let k = c.in_ok-next.ensures in
    let off : stays_open c.in_ok-next.next ≡ false = sym c.stays_open.ensures ∙ c.if-not-stays_open.true in
    let batch =
    batch_of _ site c.args.self.now.moment table guest c.args.piece.now _ c.answers.self.moment _ _ _ c.answers.self c.answer_all.new.self c.answers.caller c.answer_all.new.caller c.items-in-answers.result.now c.answers.lines (Ok c.in_ok-next.next)
    h.asked.steady c.items-in-answers.ensures h.moment (h.pends site table guest clock under serves keeps) (λ d. k.answers site d clock under) in
    feeds_cut _ site c.args.self.now.moment table guest c.args.piece.now _ _ _ c.answers.lines c.answer_all.new.self c.answer_all.new.caller (Ok c.in_ok-next.next) batch off

pub returns-in_default-more-clause-feeds : goal.returns-in_default-more-clause-feeds
returns-in_default-more-clause-feeds g c = λ site table guest clock under serves keeps.
    let h = c.answers.invariant in
    let k = c.in_ok-next.ensures in
    let d = c.drop_caller-in_default-more.ensures in
    let on : stays_open c.in_ok-next.next ≡ true = sym c.stays_open.ensures ∙ c.if-not-stays_open.false in
    let asking : asked_after false c.answers.lines ≡ true = ap (asked_after false) (sym c.items.ensures) ∙ sym c.last_asks.ensures ∙ c.answers-test.true in
    let batch =
    batch_of _ site c.args.self.now.moment table guest c.args.piece.now _ c.answers.self.moment _ _ _ c.answers.self c.answer_all.new.self c.answers.caller c.answer_all.new.caller c.items-in-answers.result.now c.answers.lines (Ok c.in_ok-next.next)
    h.asked.steady c.items-in-answers.ensures h.moment (h.pends site table guest clock under serves keeps) (λ d. k.answers site d clock under) in
    let left = λ (e : c.answers.caller.lines.left ≡ []). false≢true (c.in_default-more.ensures.none (ap (λ (r : Reader). r.left) (turned_lines c.answer_all.new.caller c.turn.new.self c.answers.caller.lines (Ok c.in_ok-next.next) c.turn.ensures k.lines) ∙ turned_left (is_granted (Ok c.in_ok-next.next)) c.answers.caller.lines ∙ e)) in
    feeds_lost _ site c.args.self.now.moment table guest c.args.piece.now _ (g.F.Floor.seen c.answer_all.new.floor) (g.F.Floor.seen c.drop_caller-in_default-more.new.floor) (g.D.Spool.seen c.answer_all.new.spool) clock c.answers.caller.lines c.answers.lines c.answer_all.new.self c.answer_all.new.caller _ (Ok c.in_ok-next.next) (Ok c.drop_caller-in_default-more.result) c.turn.new.self.number batch on asking left (ap (λ q. q.number) c.turn.ensures) d.told d.own (ap (λ n. Ok n) d.next)

pub answers-preserved : goal.answers-preserved
answers-preserved g c =
    let h = c.answers.invariant in
    let k = c.in_ok-next.ensures in
    let m = c.in-Ok-more.ensures in
    let reader = c.answers.caller.lines in
    let turned = c.turn.new.self in
    let lines = c.in-Ok-more.more in
    let on : stays_open c.in_ok-next.next ≡ true = sym c.stays_open.ensures ∙ c.if-not-stays_open.false in
    let asking : asked_after false c.answers.lines ≡ true = ap (asked_after false) (sym c.items.ensures) ∙ sym c.last_asks.ensures ∙ c.answers-test.true in
    let is = turned_lines c.answer_all.new.caller turned reader (Ok c.in_ok-next.next) c.turn.ensures k.lines in record {
      pends = λ site table guest clock under serves keeps.
          let batch =
          batch_of _ site c.args.self.now.moment table guest c.args.piece.now _ c.answers.self.moment _ _ _ c.answers.self c.answer_all.new.self c.answers.caller c.answer_all.new.caller c.items-in-answers.result.now c.answers.lines (Ok c.in_ok-next.next)
          h.asked.steady c.items-in-answers.ensures h.moment (h.pends site table guest clock under serves keeps) (λ d. k.answers site d clock under) in
          pends_more _ site c.args.self.now.moment table guest c.args.piece.now _ _ reader c.answers.lines c.answer_all.new.self c.answer_all.new.caller (Ok c.in_ok-next.next) batch on asking turned _ lines is
          (ap (λ q. q.number) c.turn.ensures) (ap (λ q. q.session) c.turn.ensures) m.stands m.turns;
      turns = λ asks. m.turns ∙ asked_after-turns turned.lines.under.may_turn lines asks;
      all = m.all;
      ready = ready_lines c.answer_all.new.self c.args.config.now c.args.maps.now c.answer_all.new.caller _ (ap (λ q. q.number) c.turn.ensures) (ap (λ q. q.session) c.turn.ensures) (k.ready on);
      moment = k.moment ∙ h.moment;
      asked = asked_join _ _ _ false h.asked k.asked;
      fixed = k.fixed ∙ h.fixed;
      own = k.own ∙ h.own;
      begun = k.begun ∙ h.begun;
      calm = k.calm (refl) ∙ h.calm;
      tallied = k.tallied (refl);
      sound = subst (IsSoundAt (g.F.Floor.seen c.answer_all.new.floor)) (sym k.number ∙ sym (ap (λ q. q.number) c.turn.ensures)) (k.sound on);
    }

pub returns-clause-feeds : goal.returns-clause-feeds
returns-clause-feeds g c = λ site table guest clock under serves keeps.
    let h = c.answers.invariant in
    let k = c.answer_all-2.ensures in
    let quiet : asked_after false c.answers.lines ≡ false = ap (asked_after false) (sym c.items.ensures) ∙ sym c.last_asks.ensures ∙ c.answers-test.false in
    let batch =
    batch_of _ site c.args.self.now.moment table guest c.args.piece.now _ c.answers.self.moment _ _ _ c.answers.self c.answer_all-2.new.self c.answers.caller c.answer_all-2.new.caller c.items-2.result.now c.answers.lines c.answer_all-2.result
    h.asked.steady c.items-2.ensures h.moment (h.pends site table guest clock under serves keeps) (λ d. k.answers site d clock under) in
    feeds_all _ site c.args.self.now.moment table guest c.args.piece.now _ _ _ c.answers.lines c.answer_all-2.new.self c.answer_all-2.new.caller c.answer_all-2.result batch quiet (h.all quiet) k.lines

pub returns-then-not-stays_open-clause-calm : goal.returns-then-not-stays_open-clause-calm
returns-then-not-stays_open-clause-calm g c = λ well. c.in_ok-next.ensures.calm well ∙ c.answers.invariant.calm

pub returns-in_default-more-clause-own : goal.returns-in_default-more-clause-own
returns-in_default-more-clause-own g c = c.drop_caller-in_default-more.ensures.own ∙ c.in_ok-next.ensures.own ∙ c.answers.invariant.own

pub returns-in_default-more-clause-begun : goal.returns-in_default-more-clause-begun
returns-in_default-more-clause-begun g c = c.drop_caller-in_default-more.ensures.begun ∙ c.in_ok-next.ensures.begun ∙ c.answers.invariant.begun

pub returns-in_default-more-clause-calm : goal.returns-in_default-more-clause-calm
returns-in_default-more-clause-calm g c = λ well.
    let on : stays_open c.in_ok-next.next ≡ true = sym c.stays_open.ensures ∙ c.if-not-stays_open.false in
    c.in_ok-next.ensures.calm (refl) ∙ c.answers.invariant.calm

pub returns-clause-calm : goal.returns-clause-calm
returns-clause-calm g c = λ well. c.answer_all-2.ensures.calm well ∙ c.answers.invariant.calm

-- the judge was asked in turn
pub returns-in_default-clause-asked : goal.returns-in_default-clause-asked
returns-in_default-clause-asked g c = asked_none (judging (g.J.Judge.seen c.args.judge.now) (g.J.Judge.answers c.args.judge.now))

pub returns-in_err-next-clause-asked : goal.returns-in_err-next-clause-asked
returns-in_err-next-clause-asked g c =
    let p = err_from_is_err_and c.from_residual.result c.from_residual.ensures.1 in
    rw (p.1, p.2) (asked_join _ _ _ (is_judge_fault {T = Next} (Err c.in_err-next.field-0.0)) c.answers.invariant.asked c.in_err-next.ensures.asked)

pub returns-then-not-stays_open-clause-asked : goal.returns-then-not-stays_open-clause-asked
returns-then-not-stays_open-clause-asked g c = asked_join _ _ _ false c.answers.invariant.asked c.in_ok-next.ensures.asked

pub returns-in_default-more-clause-asked : goal.returns-in_default-more-clause-asked
returns-in_default-more-clause-asked g c = asked_join _ _ _ false c.answers.invariant.asked c.in_ok-next.ensures.asked

pub returns-clause-asked : goal.returns-clause-asked
returns-clause-asked g c = asked_join _ _ _ (is_judge_fault c.answer_all-2.result) c.answers.invariant.asked c.answer_all-2.ensures.asked
