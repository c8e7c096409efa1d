use Rattle.command_line.proofs.WordLemmas.{time_taken, time_refused}
use Rattle.command_line.proofs.word.seconds_of.Goals as goal

pub returns-in-Ok : goal.returns-in-Ok
returns-in-Ok c = time_taken c.args.text.now c.in-Ok.seconds c.in-Ok.ensures.ok.0 c.in-Ok.ensures.ok.1

pub returns-in-Err : goal.returns-in-Err
returns-in-Err c = time_refused c.args.text.now c.time.result _ c.in-Err.is c.time.ensures.value
