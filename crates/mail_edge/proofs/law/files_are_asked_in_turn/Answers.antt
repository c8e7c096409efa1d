use Rattle.mail_edge.proofs.AskLemmas.{asks_none, asks_join}
use Rattle.mail_edge.proofs.law.files_are_asked_in_turn.Goals as goal

pub returns-clause-none : goal.returns-clause-none
returns-clause-none c = λ files. asks_none files

pub returns-clause-join : goal.returns-clause-join
returns-clause-join c = λ before between after failed. asks_join before between after failed
