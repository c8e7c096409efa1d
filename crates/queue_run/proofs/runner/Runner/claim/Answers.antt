-- The routes of the rows, and their batches.
use Rattle.std.proofs.Common.{◌≡◌, All, None, reverse, sym, subst, Contains}
use Rattle.spool_store.specs.Keepers.{seen}
use Rattle.queue_run.specs.Batches.{batches_of}
use Rattle.queue_run.specs.Claims.{claim_macros}
use Rattle.queue_run.specs.Ready.{AreAllApart, IsUntried}
use Rattle.queue_run.proofs.ClaimLemmas.{claimed_apart, claimed_routes, claimed_untried}
use Rattle.queue_run.proofs.runner.Runner.claim.Goals as goal

pub returns-clause-claims : goal.returns-clause-claims
returns-clause-claims c = λ h among is.
    let e : reverse c.in_ok-rest.rest.items ≡ batches_of c.args.config.now c.in_ok-rows.rows = c.in_ok-rest.ensures in record {
      rows = c.in_ok-rows.rows;
      routed = claimed_routes c.args.config.now c.args.maps.now c.args.id.now h _ _ _ c.in_ok-rows.rows
          (c.entry.ensures.is h (subst (λ q. Contains (seen q).entries h) (sym c.queue.ensures) among) is) c.in_ok-macros.ensures c.items.ensures c.in_ok-rows.ensures;
      is = λ i. record { id = c.args.id.now; rest = e i; running = None };
    }

pub returns-clause-ready : goal.returns-clause-ready
returns-clause-ready c =
    let e : reverse c.in_ok-rest.rest.items ≡ batches_of c.args.config.now c.in_ok-rows.rows = c.in_ok-rest.ensures in
    let h = c.requires.entry.held in
    let routed = claimed_routes c.args.config.now c.args.maps.now c.args.id.now h _ _ _ c.in_ok-rows.rows
    (c.entry.ensures.is h (subst (λ q. Contains (seen q).entries h) (sym c.queue.ensures) c.requires.entry.among) c.requires.entry.is) c.in_ok-macros.ensures c.items.ensures c.in_ok-rows.ensures in
    let macros = claim_macros c.args.config.now c.args.id.now h.entry.control in record {
      held = h;
      among = c.requires.entry.among;
      is = c.requires.entry.is;
      untried = subst (All (IsUntried h.entry.control.rows)) (sym e) (claimed_untried c.args.config.now c.args.maps.now macros h.entry.control.rows c.in_ok-rows.rows routed);
      apart = subst AreAllApart (sym e) (claimed_apart c.args.config.now c.args.maps.now macros h.entry.control.rows c.in_ok-rows.rows routed);
      running = tt;
    }
