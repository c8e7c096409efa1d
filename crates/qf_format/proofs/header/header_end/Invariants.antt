use Rattle.std.proofs.Common.{ℕ, ◌<◌}
use Rattle.qf_format.specs.inner.Parts.{EndsAt}
use Rattle.qf_format.proofs.header.header_end.Given as goal

abbrev pub invariant-loop-at : goal.invariant-loop-at
invariant-loop-at l = (k : ℕ) → k < l.at → EndsAt l.text k → ⊥
