use Rattle.std.proofs.Common.{◌≡◌}
use Rattle.std.specs.Prelude.{Any}
use Rattle.spool_store.specs.Changes.{draft_place}
use Rattle.spool_store.proofs.Waiting as lemmas
use Rattle.spool_store.proofs.queue_law.before_stands.Goals as goal

pub returns : goal.returns
returns c = λ dirs table drafts children f g. lemmas.before_stands dirs table (λ place. Any (λ s. place ≡ draft_place s) drafts) children f g
