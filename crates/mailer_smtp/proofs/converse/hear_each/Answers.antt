-- Each accepted row gets its own reply.
use Rattle.std.proofs.Common.{◌≡◌, ◌+◌, ◌<◌, true, false, length, take, drop, refl, sym, ◌∙◌, ap, length-set, arith}
use Rattle.mailer_smtp.specs.Plans.{is_sent, is_whole}
use Rattle.mailer_smtp.proofs.LineLemmas.{sound_open}
use Rattle.mailer_smtp.proofs.TalkLemmas.{went_as, went_join, went_none, went_moved, sound_moved}
use Rattle.mailer_smtp.proofs.ConverseLemmas.{row_go, each_here, each_lost, each_heard, each_same, each_all}
use Rattle.mailer_smtp.proofs.converse.hear_each.Goals as goal
use Rattle.mailer_smtp.proofs.converse.hear_each.Goals.{then-is_sent+else-not-is_whole, else-is_sent}

pub loop-i-init : goal.loop-i-init
loop-i-init g c = (went_none _ _ _ _ (sound_open _ _ c.requires.sound), c.requires.sound, refl)

pub returns-then-not-is_whole-clause-went : goal.returns-then-not-is_whole-clause-went
returns-then-not-is_whole-clause-went g c =
    let i = c.loop-i.i in
    let rows = c.loop-i.rows in
    let row = c.index-rows-i.result in
    let is = c.index-rows-i.is in
    let within : i < length rows = omega arith in
    let sent : is_sent row ≡ true = ap is_sent is ∙ sym c.is_sent.ensures ∙ c.if-is_sent.true in
    let lost : is_whole c.hear-reply.result ≡ false = sym c.is_whole.ensures ∙ c.if-not-is_whole.true in
    went_join _ _ _ _ _ _ _ _ _ _ c.loop-i.invariant.0 (went_as _ _ _ _ _ _ _ _ _ (sym (each_here (take i rows) rows i row is within sent)) (each_lost rows c.settle.new.rows i row c.hear-reply.result is within lost c.settle.ensures) (c.hear-reply.ensures.went (row_go (take i rows) row (drop (i + 1) rows))))

pub loop-i-preserved : goal.loop-i-preserved
loop-i-preserved g c =
    let i = c.loop-i.i in
    let rows = c.loop-i.rows in
    let row = c.index-rows-i.result in
    let is = c.index-rows-i.is in
    let within : i < length rows = omega arith in
    elim c.if-is_sent.branch [
      | then-is_sent+else-not-is_whole w ↦
          let sent : is_sent row ≡ true = ap is_sent is ∙ sym c.is_sent.ensures ∙ w.if-is_sent.true in
          let heard : is_whole w.hear-reply.result ≡ true = sym w.is_whole.ensures ∙ w.if-not-is_whole.false in (
            went_moved _ _ _ _ _ _ _ _ _ (ap g.N.Dialer.seen w.dialer-is) w.inbox-is (went_join _ _ _ _ _ _ _ _ _ _ c.loop-i.invariant.0 (went_as _ _ _ _ _ _ _ _ _ (sym (each_here (take i rows) rows i row is within sent)) (each_heard rows c.if-is_sent.rows i row w.result_of.result w.hear-reply.result within heard w.rows-is w.result_of.ensures) (w.hear-reply.ensures.went (row_go (take i rows) row (drop (i + 1) rows))))),
            sound_moved _ _ _ (ap g.N.Dialer.seen w.dialer-is) (w.hear-reply.ensures.sound heard),
            ap length w.rows-is ∙ length-set rows i w.result_of.result ∙ c.loop-i.invariant.2,
          )
      | else-is_sent w ↦
          let other : is_sent row ≡ false = ap is_sent is ∙ sym c.is_sent.ensures ∙ w.if-is_sent.false in (
            went_moved _ _ _ _ _ _ _ _ _ (ap g.N.Dialer.seen w.dialer-is) w.inbox-is (went_as _ _ _ _ _ _ _ _ _ refl (each_same rows c.if-is_sent.rows i row is within other w.rows-is) c.loop-i.invariant.0),
            sound_moved _ _ _ (ap g.N.Dialer.seen w.dialer-is) c.loop-i.invariant.1,
            ap length w.rows-is ∙ c.loop-i.invariant.2,
          )
    ]

pub returns-clause-went : goal.returns-clause-went
returns-clause-went g c = went_as _ _ _ _ _ _ _ _ _ refl (each_all c.loop-i.rows c.loop-i.i (omega arith)) c.loop-i.invariant.0
