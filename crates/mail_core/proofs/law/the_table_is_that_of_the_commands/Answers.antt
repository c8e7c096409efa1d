use Rattle.mail_core.specs.Judges.{untold}
use Rattle.mail_core.proofs.TableLemmas.{run_tells}
use Rattle.mail_core.proofs.law.the_table_is_that_of_the_commands.Goals as goal

pub returns : goal.returns
returns c = λ site m turns. let tells = run_tells untold site m turns in tells.table
