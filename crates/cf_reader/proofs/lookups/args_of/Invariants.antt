use Rattle.std.proofs.Common.{◌≡◌, ◌≤◌, ◌-◌, length, drop}
use Rattle.cf_reader.specs.Sides.{each, pieces_of}
use Rattle.cf_reader.specs.inner.Making.{added, parts_behind}
use Rattle.cf_reader.proofs.lookups.args_of.Given as goal

-- what stands so far and what the rest gives
abbrev pub invariant-arguments : goal.invariant-arguments
invariant-arguments l = (l.place ≤ length l.fields) × (added l.args (each pieces_of (parts_behind (drop l.place l.fields))) ≡ each pieces_of (parts_behind l.fields))

abbrev pub decreases-arguments : goal.decreases-arguments
decreases-arguments l = length l.fields - l.place
