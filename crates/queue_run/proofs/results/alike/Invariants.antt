-- The rows so far have the result.
use Rattle.std.proofs.Common.{◌≡◌, take}
use Rattle.queue_run.specs.Results.{alike}
use Rattle.queue_run.proofs.results.alike.Given as goal

abbrev pub invariant-loop-place : goal.invariant-loop-place
invariant-loop-place l = l.results ≡ alike l.one (take l.place-index l.places)
