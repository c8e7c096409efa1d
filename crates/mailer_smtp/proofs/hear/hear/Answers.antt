-- Each way out of the loop is one way in which a reply is heard.
use Rattle.std.proofs.Common.{length, ap, arith, length-append}
use Rattle.mailer_smtp.proofs.HearLemmas.{front_fits, front_of, none_of, said_of, hearing_more, went_said, went_bad, went_ended, went_failed, went_by}
use Rattle.mailer_smtp.proofs.hear.hear.Goals as goal

pub returns-in-Said-clause-went : goal.returns-in-Said-clause-went
returns-in-Said-clause-went g c = went_said _ _ _ _ _ _ _ _ _ c.loop-verdict.invariant (said_of _ _ _ _ _ c.bytes.ensures c.in-Said.ensures) c.drop_front.ensures

pub returns-in-Bad-clause-went : goal.returns-in-Bad-clause-went
returns-in-Bad-clause-went g c = went_by _ _ _ _ _ _ _ _ c.broken.ensures (went_bad _ _ _ _ _ _ c.loop-verdict.invariant (none_of _ _ c.bytes.ensures c.in-Bad.ensures))

pub read-requires-clause-room : goal.read-requires-clause-room
read-requires-clause-room g c = front_fits _ (front_of _ _ c.bytes.ensures c.in-Part.ensures)

pub returns-in-Ok-eq0-clause-went : goal.returns-in-Ok-eq0-clause-went
returns-in-Ok-eq0-clause-went g c = went_by _ _ _ _ _ _ _ _ c.broken-in-Ok-eq0.ensures (went_ended _ _ _ _ _ _ _ _ _ c.loop-verdict.invariant (front_of _ _ c.bytes.ensures c.in-Part.ensures) c.in-Ok-eq0.ensures.fills (omega arith) c.in-Ok-eq0.ensures.missed c.in-Ok-eq0.ensures.calm)

pub loop-verdict-smaller : goal.loop-verdict-smaller
loop-verdict-smaller g c =
    let fits = front_fits _ (front_of _ _ c.bytes.ensures c.in-Part.ensures) in
    let fills = c.in-Ok.ensures.fills in
    omega (arith, fits, fills.size, ap length fills.now_is, length-append c.loop-verdict.inbox fills.piece)

pub loop-verdict-preserved : goal.loop-verdict-preserved
loop-verdict-preserved g c = hearing_more _ _ _ _ _ _ _ _ _ c.loop-verdict.invariant (front_of _ _ c.bytes.ensures c.in-Part.ensures) c.in-Ok.ensures.fills c.in-Ok.ensures.missed c.in-Ok.ensures.calm (λ e. omega arith)

pub returns-in-Err-clause-went : goal.returns-in-Err-clause-went
returns-in-Err-clause-went g c = went_by _ _ _ _ _ _ _ _ c.broken-in-Err.ensures (went_failed _ _ _ _ _ _ _ _ c.loop-verdict.invariant (front_of _ _ c.bytes.ensures c.in-Part.ensures) c.in-Err.ensures.fills.0 c.in-Err.ensures.fills.1 c.in-Err.ensures.missed c.in-Err.ensures.cause.later c.in-Err.ensures.cause.failed)
