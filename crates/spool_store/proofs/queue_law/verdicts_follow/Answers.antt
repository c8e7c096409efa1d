use Rattle.spool_store.proofs.Verdicts as lemmas
use Rattle.spool_store.proofs.queue_law.verdicts_follow.Goals as goal

pub returns-clause-alone : goal.returns-clause-alone
returns-clause-alone c = lemmas.verdict_alone

pub returns-clause-none : goal.returns-clause-none
returns-clause-none c = lemmas.verdict_none

pub returns-clause-strange : goal.returns-clause-strange
returns-clause-strange c = lemmas.verdict_strange

pub returns-clause-live : goal.returns-clause-live
returns-clause-live c = lemmas.verdict_live

pub returns-clause-lower : goal.returns-clause-lower
returns-clause-lower c = lemmas.verdict_lower

pub returns-clause-dead : goal.returns-clause-dead
returns-clause-dead c = lemmas.verdict_dead

pub returns-clause-finished : goal.returns-clause-finished
returns-clause-finished c = lemmas.finished_always
