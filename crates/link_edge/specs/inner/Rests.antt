-- What is left of one step after its turn: what the loop over the steps goes by. It need not be
-- believed: no public contract cites it.
use Rattle.std.specs.Prelude.{ℕ, List, [], ◌∷◌, Option, Some, None}
use Rattle.link_edge.specs.declared.step.Step.{Step}
use Rattle.link_edge.specs.Steps.{without_said}

-- what is left of a step of which so many bytes came, or which is done
abbrev pub rest_at : Step → Option ℕ → List Step
rest_at step None = []
rest_at step (Some count) = without_said count step ∷ []
