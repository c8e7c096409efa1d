use Rattle.std.proofs.Common.{◌≡◌}
use Rattle.std.specs.Prelude.{Any}
use Rattle.spool_store.specs.Changes.{draft_place}
use Rattle.spool_store.proofs.Stages as lemmas
use Rattle.spool_store.proofs.queue_law.stages_follow.Goals as goal

pub returns-clause-none : goal.returns-clause-none
returns-clause-none c = lemmas.written_none

pub returns-clause-body : goal.returns-clause-body
returns-clause-body c = lemmas.put_body

pub returns-clause-draft : goal.returns-clause-draft
returns-clause-draft c = lemmas.put_draft

pub returns-clause-rename : goal.returns-clause-rename
returns-clause-rename c = lemmas.publish

pub returns-clause-new_draft : goal.returns-clause-new_draft
returns-clause-new_draft c = lemmas.put_new_draft

pub returns-clause-raise : goal.returns-clause-raise
returns-clause-raise c = lemmas.raise

pub returns-clause-before : goal.returns-clause-before
returns-clause-before c = λ next drafts. lemmas.put_before next (λ place. Any (λ s. place ≡ draft_place s) drafts)

pub returns-clause-body_before : goal.returns-clause-body_before
returns-clause-body_before c = λ next drafts. lemmas.body_before next (λ place. Any (λ s. place ≡ draft_place s) drafts)

pub returns-clause-draft_before : goal.returns-clause-draft_before
returns-clause-draft_before c = λ next drafts. lemmas.draft_before next (λ place. Any (λ s. place ≡ draft_place s) drafts)
