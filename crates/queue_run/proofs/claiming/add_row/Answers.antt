-- A row that is tried adds where it goes.
use Rattle.std.proofs.Common.{◌≡◌, ◌∙◌, ◌++◌, sym, subst, rules}
use Rattle.std.specs.List.{AllZip}
use Rattle.queue_run.specs.Batches.{waiting_at}
use Rattle.queue_run.specs.Claims.{IsRouted}
use Rattle.queue_run.proofs.ClaimLemmas.{routed_one}
use Rattle.queue_run.proofs.claiming.add_row.Goals as goal

pub returns-in_ok-push : goal.returns-in_ok-push
returns-in_ok-push c = λ rows so.
    let config = c.args.config.now in
    let maps = c.args.maps.now in
    let macros = c.args.macros.now in
    let at : c.in-Ok.place ≡ c.args.place = search (rules, c.in-Ok.ensures, c.in-Ok.is, c.try_from.ensures) in
    subst (λ q. AllZip (IsRouted config maps macros) (rows ++ waiting_at c.args.place c.args.row.now) q) (sym c.in_ok-push.ensures.ok)
    (routed_one config maps macros rows c.args.routed.now c.args.place c.args.row.now (record { place = c.in-Ok.place; resolved = c.in_ok-resolved.resolved }) (sym c.is_queued.ensures ∙ c.if-is_queued.true) at c.in_ok-resolved.ensures.route so)
