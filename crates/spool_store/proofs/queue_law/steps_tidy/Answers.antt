use Rattle.spool_store.proofs.Sweeping as lemmas
use Rattle.spool_store.proofs.queue_law.steps_tidy.Goals as goal

pub returns-clause-none : goal.returns-clause-none
returns-clause-none c = lemmas.tidied_none

pub returns-clause-draft : goal.returns-clause-draft
returns-clause-draft c = lemmas.drop_draft

pub returns-clause-control : goal.returns-clause-control
returns-clause-control c = lemmas.drop_control

pub returns-clause-body : goal.returns-clause-body
returns-clause-body c = lemmas.drop_body

pub returns-clause-rename : goal.returns-clause-rename
returns-clause-rename c = lemmas.move_live
