-- The rows so far are routed.
use Rattle.std.proofs.Common.{take}
use Rattle.std.specs.List.{AllZip}
use Rattle.queue_run.specs.Batches.{waiting_from}
use Rattle.queue_run.specs.Claims.{IsRouted}
use Rattle.queue_run.proofs.claiming.routed_rows.Given as goal

abbrev pub invariant-loop-place : goal.invariant-loop-place
invariant-loop-place l =
    AllZip (IsRouted l.config l.maps l.macros) (waiting_from 0 (take l.place l.rows)) l.routed
