use Rattle.std.proofs.Common.{[]}
use Rattle.mail_core.specs.Judges.{untold}
use Rattle.mail_core.proofs.TableLemmas.{run_tells}
use Rattle.mail_core.proofs.law.acknowledged_messages_are_in_the_table.Goals as goal

pub returns : goal.returns
returns c = λ site m turns meant. let tells = run_tells untold site m turns in tells.acked meant []
