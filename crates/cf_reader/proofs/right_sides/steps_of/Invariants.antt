use Rattle.std.proofs.Common.{◌≡◌, ◌≤◌, ◌-◌, length, drop}
use Rattle.cf_reader.specs.inner.Making.{added, steps_in}
use Rattle.cf_reader.proofs.right_sides.steps_of.Given as goal

-- what stands so far and what the rest gives
abbrev pub invariant-steps : goal.invariant-steps
invariant-steps l = (l.place ≤ length l.body) × (added l.steps (steps_in (drop l.place l.body)) ≡ steps_in l.body)

abbrev pub decreases-steps : goal.decreases-steps
decreases-steps l = length l.body - l.place
