-- The rows at the places so far.
use Rattle.std.proofs.Common.{◌≡◌, filter_map, slice_get, take}
use Rattle.queue_plan.proofs.parting.rows_at.Given as goal

abbrev pub invariant-loop-place : goal.invariant-loop-place
invariant-loop-place l = l.chosen ≡ filter_map (slice_get l.rows) (take l.place-index l.places)
