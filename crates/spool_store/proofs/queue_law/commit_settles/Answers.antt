use Rattle.std.proofs.Common.{◌≡◌}
use Rattle.std.specs.Prelude.{Any}
use Rattle.spool_store.specs.Changes.{draft_place}
use Rattle.spool_store.proofs.Committing as lemmas
use Rattle.spool_store.proofs.queue_law.commit_settles.Goals as goal

pub returns-clause-new : goal.returns-clause-new
returns-clause-new c = lemmas.new_settled

pub returns-clause-old : goal.returns-clause-old
returns-clause-old c = lemmas.old_settled

pub returns-clause-new_before : goal.returns-clause-new_before
returns-clause-new_before c = λ dirs table drafts. lemmas.new_before dirs table (λ place. Any (λ s. place ≡ draft_place s) drafts)

pub returns-clause-old_before : goal.returns-clause-old_before
returns-clause-old_before c = λ dirs table drafts. lemmas.old_before dirs table (λ place. Any (λ s. place ≡ draft_place s) drafts)
