-- The rows so far have their result.
use Rattle.std.proofs.Common.{◌≡◌, ℕ, List, take, length}
use Rattle.queue_run.specs.Results.{alike, device_fault}
use Rattle.queue_run.proofs.results.fill_lost.Given as goal

abbrev pub invariant-loop-place : goal.invariant-loop-place
invariant-loop-place l = (length l.outcomes.results ≡ length l.fn.outcomes.results) × ((places : List ℕ) → length l.fn.outcomes.results ≡ length places → take l.place l.outcomes.results ≡ alike (device_fault) (take l.place places))
