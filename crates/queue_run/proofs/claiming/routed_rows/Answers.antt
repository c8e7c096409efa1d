-- A row more.
use Rattle.std.proofs.Common.{◌++◌, take, sym, subst, ap, ◌∙◌}
use Rattle.std.specs.List.{AllZip}
use Rattle.queue_run.specs.Batches.{waiting_at, waiting_from}
use Rattle.queue_run.specs.Claims.{IsRouted}
use Rattle.queue_run.proofs.ClaimLemmas.{waiting_more}
use Rattle.queue_run.proofs.claiming.routed_rows.Goals as goal

pub loop-place-preserved : goal.loop-place-preserved
loop-place-preserved c =
    let l = c.loop-place in
    let rows = c.args.rows.now in
    let row = c.index-rows-place.result in
    subst (λ q. AllZip (IsRouted c.args.config.now c.args.maps.now c.args.macros.now) q c.add_row.new.routed)
    (ap (λ q. waiting_from 0 (take l.place rows) ++ waiting_at l.place q) c.index-rows-place.is ∙ sym (waiting_more rows l.place row c.loop-place-test.true))
    (c.in_ok-add_row.ensures (waiting_from 0 (take l.place rows)) l.invariant)
