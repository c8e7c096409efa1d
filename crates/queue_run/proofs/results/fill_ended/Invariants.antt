-- The rows so far have their result.
use Rattle.std.proofs.Common.{◌≡◌, ℕ, List, take, length}
use Rattle.mailer_pipe.specs.Ends.{ended_with}
use Rattle.queue_run.specs.Results.{alike}
use Rattle.queue_run.proofs.results.fill_ended.Given as goal

abbrev pub invariant-loop-place : goal.invariant-loop-place
invariant-loop-place l = (length l.outcomes.results ≡ length l.fn.outcomes.results) × ((places : List ℕ) → length l.fn.outcomes.results ≡ length places → take l.place l.outcomes.results ≡ alike (ended_with l.status) (take l.place places))
