-- Each RCPT is sent behind the reply to the one before it.
use Rattle.std.proofs.Common.{◌+◌, ◌<◌, [], length, drop, refl, sym, ◌∙◌, ap, arith}
use Rattle.mailer_smtp.specs.Plans.{receivers}
use Rattle.mailer_smtp.proofs.LineLemmas.{sound_open}
use Rattle.mailer_smtp.proofs.TalkLemmas.{went_as, went_join, went_none}
use Rattle.mailer_smtp.proofs.ConverseLemmas.{rcpts_here, rcpts_lost, rcpts_all}
use Rattle.mailer_smtp.proofs.converse.send_rcpts.Goals as goal

pub loop-rcpt-init : goal.loop-rcpt-init
loop-rcpt-init g c = record {
  went = λ speech kit. went_as _ _ _ _ _ _ _ _ _ refl (ap (λ xs. receivers speech kit xs c.args.rcpts.now) (sym c.requires.none)) (went_none _ _ (receivers speech kit [] c.args.rcpts.now) _ (sound_open _ _ c.requires.sound));
  size = ap length c.requires.none;
  capacity = refl;
  sound = c.requires.sound;
}

pub returns-in-Some-clause-went : goal.returns-in-Some-clause-went
returns-in-Some-clause-went g c = λ speech kit.
    let i = c.loop-rcpt.rcpt-index in
    let rows = c.loop-rcpt.rows.items in
    let all = c.args.rcpts.now in
    let rcpt = c.rcpt-item.result in
    let within : i < length all = omega arith in
    went_join _ _ _ _ _ _ _ _ _ _ (c.loop-rcpt.invariant.went speech kit) (went_as _ _ _ _ _ _ _ _ _ (sym (rcpts_here speech kit rows all i rcpt c.rcpt-item.is within)) (rcpts_lost c.in-Some.reply rows _ all i rcpt c.rcpt-item.is within c.loop-rcpt.invariant.size (c.in-Some.ensures.kept refl)) (c.in-Some.ensures.went speech kit (drop (i + 1) all)))

pub loop-rcpt-preserved : goal.loop-rcpt-preserved
loop-rcpt-preserved g c =
    let i = c.loop-rcpt.rcpt-index in
    let rows = c.loop-rcpt.rows.items in
    let all = c.args.rcpts.now in
    let rcpt = c.rcpt-item.result in
    let within : i < length all = omega arith in
    record {
      went = λ speech kit. went_join _ _ _ _ _ _ _ _ _ _ (c.loop-rcpt.invariant.went speech kit) (went_as _ _ _ _ _ _ _ _ _ (sym (rcpts_here speech kit rows all i rcpt c.rcpt-item.is within)) refl (c.in-None.ensures.went speech kit (drop (i + 1) all)));
      size = c.in-None.ensures.more refl ∙ ap (λ n. n + 1) c.loop-rcpt.invariant.size;
      capacity = c.in-None.ensures.capacity ∙ c.loop-rcpt.invariant.capacity;
      sound = c.in-None.ensures.sound refl;
    }

pub returns-clause-went : goal.returns-clause-went
returns-clause-went g c = λ speech kit. went_as _ _ _ _ _ _ _ _ _ refl (rcpts_all speech kit c.loop-rcpt.rows.items c.args.rcpts.now c.loop-rcpt.rcpt-index (omega arith)) (c.loop-rcpt.invariant.went speech kit)
