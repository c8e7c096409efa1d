-- What was found, and what was left of it.
use Rattle.std.proofs.Common.{◌≡◌, ◌∙◌, ap, sym, subst, List, ℕ, Err}
use Rattle.std.specs.Prelude.{All, IfSome}
use Rattle.std.proofs.lemmas.Result.{err_from_is_err_and}
use Rattle.mail_base.specs.declared.fault.StoreFault.{StoreFault}
use Rattle.spool_store.specs.Entries.{Table}
use Rattle.spool_store.specs.Keepers.{IsReading}
use Rattle.spool_store.specs.Moves.{Moves}
use Rattle.spool_store.specs.Settled.{IsSettled, StandsFor}
use Rattle.spool_store.specs.Openings.{AreEntries, IsFitting}
use Rattle.spool_store.specs.Stores.{Agrees, Holds, KeepsOthers, StoreSeen}
use Rattle.spool_store.specs.Tidying.{IsTidied}
use Rattle.spool_store.proofs.Matching.{opened_holds, opened_table}
use Rattle.spool_store.proofs.MovesLemmas.{moves_weaker}
use Rattle.spool_store.proofs.RecoveryLemmas.{frame_moves, stands_moves}
use Rattle.spool_store.proofs.Reopening.{HasOpened, agrees_now, clean_now, reading_of, settled_now}
use Rattle.spool_store.proofs.SweepLemmas.{counts_err, counts_none, counts_starved, counts_then}
use Rattle.spool_store.proofs.recovery.reopen.Goals as goal

pub of-requires-clause-fit : goal.of-requires-clause-fit
of-requires-clause-fit g c = subst (λ (d : List (List ℕ)). All (IsFitting d) c.in_ok-opened.opened.entries) c.items.ensures c.in_ok-opened.ensures.fit

pub returns-in_err-opened-clause-stands : goal.returns-in_err-opened-clause-stands
returns-in_err-opened-clause-stands g c = λ table. subst (λ (d : List (List ℕ)). Moves (g.D.Spool.seen c.args.spool.now) (g.D.Spool.seen c.take_over.new.spool) (StandsFor d table) (StandsFor d table) (StandsFor d table)) c.items.ensures
    (stands_moves (g.D.Spool.seen c.args.spool.now) (g.D.Spool.seen c.take_over.new.spool) c.items.result.now table c.in_err-opened.ensures.counts.steps (λ f e. c.in_err-opened.ensures.tidied f e))

pub returns-in_err-opened-clause-tidied : goal.returns-in_err-opened-clause-tidied
returns-in_err-opened-clause-tidied g c = λ f e. subst (λ (d : List (List ℕ)). Moves (g.D.Spool.seen c.args.spool.now) (g.D.Spool.seen c.take_over.new.spool) (λ h. h ≡ f) (IsTidied d f) (IsTidied d f)) c.items.ensures (c.in_err-opened.ensures.tidied f e)

pub returns-in_err-opened-clause-frame : goal.returns-in_err-opened-clause-frame
returns-in_err-opened-clause-frame g c = λ f. subst (λ (d : List (List ℕ)). Moves (g.D.Spool.seen c.args.spool.now) (g.D.Spool.seen c.take_over.new.spool) (λ h. h ≡ f) (KeepsOthers d f) (KeepsOthers d f)) c.items.ensures
    (frame_moves (g.D.Spool.seen c.args.spool.now) (g.D.Spool.seen c.take_over.new.spool) c.items.result.now c.in_err-opened.ensures.counts.steps (λ e q. c.in_err-opened.ensures.tidied e q) f)

pub returns-in_err-opened-clause-counts : goal.returns-in_err-opened-clause-counts
returns-in_err-opened-clause-counts g c =
    let p = err_from_is_err_and c.from_residual.result c.from_residual.ensures.1 in
    counts_err _ _ c.in_err-opened.field-0.0 _ (p.1 ∙ ap (λ (e : StoreFault). Err e) p.2) c.in_err-opened.ensures.counts

pub returns-in_err-queue-clause-stands : goal.returns-in_err-queue-clause-stands
returns-in_err-queue-clause-stands g c = λ table. subst (λ (d : List (List ℕ)). Moves (g.D.Spool.seen c.args.spool.now) (g.D.Spool.seen c.take_over.new.spool) (StandsFor d table) (StandsFor d table) (StandsFor d table)) c.items.ensures
    (stands_moves (g.D.Spool.seen c.args.spool.now) (g.D.Spool.seen c.take_over.new.spool) c.items.result.now table c.in_ok-opened.ensures.counts.steps (λ f e. moves_weaker _ _ _ _ _ _ _ (λ h k. k.0) (λ h k. k) (c.in_ok-opened.ensures.tidied f e)))

pub returns-in_err-queue-clause-tidied : goal.returns-in_err-queue-clause-tidied
returns-in_err-queue-clause-tidied g c = λ f e. subst (λ (d : List (List ℕ)). Moves (g.D.Spool.seen c.args.spool.now) (g.D.Spool.seen c.take_over.new.spool) (λ h. h ≡ f) (IsTidied d f) (IsTidied d f)) c.items.ensures (moves_weaker _ _ _ _ _ _ _ (λ h k. k.0) (λ h k. k) (c.in_ok-opened.ensures.tidied f e))

pub returns-in_err-queue-clause-frame : goal.returns-in_err-queue-clause-frame
returns-in_err-queue-clause-frame g c = λ f. subst (λ (d : List (List ℕ)). Moves (g.D.Spool.seen c.args.spool.now) (g.D.Spool.seen c.take_over.new.spool) (λ h. h ≡ f) (KeepsOthers d f) (KeepsOthers d f)) c.items.ensures
    (frame_moves (g.D.Spool.seen c.args.spool.now) (g.D.Spool.seen c.take_over.new.spool) c.items.result.now c.in_ok-opened.ensures.counts.steps (λ e q. moves_weaker _ _ _ _ _ _ _ (λ h k. k.0) (λ h k. k) (c.in_ok-opened.ensures.tidied e q)) f)

pub returns-in_err-queue-clause-counts : goal.returns-in_err-queue-clause-counts
returns-in_err-queue-clause-counts g c =
    let p = err_from_is_err_and c.from_residual-in_err-queue.result c.from_residual-in_err-queue.ensures.1 in
    counts_then _ _ _ _ _ c.in_ok-opened.ensures.counts (counts_starved _ _ (p.1 ∙ ap (λ (e : StoreFault). Err e) p.2))

pub returns-clause-stands : goal.returns-clause-stands
returns-clause-stands g c = λ table. subst (λ (d : List (List ℕ)). Moves (g.D.Spool.seen c.args.spool.now) (g.D.Spool.seen c.take_over.new.spool) (StandsFor d table) (StandsFor d table) (StandsFor d table)) c.items.ensures
    (stands_moves (g.D.Spool.seen c.args.spool.now) (g.D.Spool.seen c.take_over.new.spool) c.items.result.now table c.in_ok-opened.ensures.counts.steps (λ f e. moves_weaker _ _ _ _ _ _ _ (λ h k. k.0) (λ h k. k) (c.in_ok-opened.ensures.tidied f e)))

pub returns-clause-tidied : goal.returns-clause-tidied
returns-clause-tidied g c = λ f e. subst (λ (d : List (List ℕ)). Moves (g.D.Spool.seen c.args.spool.now) (g.D.Spool.seen c.take_over.new.spool) (λ h. h ≡ f) (IsTidied d f) (IsTidied d f)) c.items.ensures (moves_weaker _ _ _ _ _ _ _ (λ h k. k.0) (λ h k. k) (c.in_ok-opened.ensures.tidied f e))

pub returns-clause-frame : goal.returns-clause-frame
returns-clause-frame g c = λ f. subst (λ (d : List (List ℕ)). Moves (g.D.Spool.seen c.args.spool.now) (g.D.Spool.seen c.take_over.new.spool) (λ h. h ≡ f) (KeepsOthers d f) (KeepsOthers d f)) c.items.ensures
    (frame_moves (g.D.Spool.seen c.args.spool.now) (g.D.Spool.seen c.take_over.new.spool) c.items.result.now c.in_ok-opened.ensures.counts.steps (λ e q. moves_weaker _ _ _ _ _ _ _ (λ h k. k.0) (λ h k. k) (c.in_ok-opened.ensures.tidied e q)) f)

pub returns-clause-counts : goal.returns-clause-counts
returns-clause-counts g c = counts_then _ _ _ _ _ c.in_ok-opened.ensures.counts (counts_none _ c.in_ok-queue.queue)

pub returns-clause-agrees : goal.returns-clause-agrees
returns-clause-agrees g c =
    let a = g.D.Spool.seen c.args.spool.now in
    let b = g.D.Spool.seen c.take_over.new.spool in
    let o = c.in_ok-opened.opened in
    let ens = c.in_ok-opened.ensures in
    let has = subst (λ (d : List (List ℕ)). HasOpened a b d o) c.items.ensures (record { steps = ens.counts.steps.now; leads = λ f e. (ens.tidied f e).now; entries = ens.entries; strange = ens.strange; next = ens.next }) in
    subst (λ (q : StoreSeen). IfSome b.told (Agrees q)) (sym c.in_ok-queue.ensures) (agrees_now a b c.args.dirs.now o has)

pub returns-clause-settled : goal.returns-clause-settled
returns-clause-settled g c = λ table f e stands.
    let a = g.D.Spool.seen c.args.spool.now in
    let b = g.D.Spool.seen c.take_over.new.spool in
    let o = c.in_ok-opened.opened in
    let ens = c.in_ok-opened.ensures in
    let has = subst (λ (d : List (List ℕ)). HasOpened a b d o) c.items.ensures (record { steps = ens.counts.steps.now; leads = λ f e. (ens.tidied f e).now; entries = ens.entries; strange = ens.strange; next = ens.next }) in
    subst (λ (q : StoreSeen). IfSome b.told (IsSettled c.args.dirs.now (record { entries = table.entries; next = q.next }))) (sym c.in_ok-queue.ensures) (settled_now a b c.args.dirs.now o table f has e stands)

pub returns-clause-clean : goal.returns-clause-clean
returns-clause-clean g c =
    let a = g.D.Spool.seen c.args.spool.now in
    let b = g.D.Spool.seen c.take_over.new.spool in
    let o = c.in_ok-opened.opened in
    let ens = c.in_ok-opened.ensures in
    let has = subst (λ (d : List (List ℕ)). HasOpened a b d o) c.items.ensures (record { steps = ens.counts.steps.now; leads = λ f e. (ens.tidied f e).now; entries = ens.entries; strange = ens.strange; next = ens.next }) in
    clean_now a b c.args.dirs.now o has

pub returns-clause-read : goal.returns-clause-read
returns-clause-read g c = λ f e.
    let a = g.D.Spool.seen c.args.spool.now in
    let b = g.D.Spool.seen c.take_over.new.spool in
    let o = c.in_ok-opened.opened in
    let ens = c.in_ok-opened.ensures in
    let has = subst (λ (d : List (List ℕ)). HasOpened a b d o) c.items.ensures (record { steps = ens.counts.steps.now; leads = λ f e. (ens.tidied f e).now; entries = ens.entries; strange = ens.strange; next = ens.next }) in
    subst (IsReading c.args.dirs.now f) (sym c.in_ok-queue.ensures) (reading_of a b c.args.dirs.now o f has e)

pub returns-clause-holds : goal.returns-clause-holds
returns-clause-holds g c = λ table f e stands.
    let o = c.in_ok-opened.opened in
    let ens = c.in_ok-opened.ensures in
    subst (λ (q : StoreSeen). Holds q (record { entries = table.entries; next = q.next })) (sym c.in_ok-queue.ensures)
    (opened_holds c.args.dirs.now f o table ens.order.ascending (subst (λ (d : List (List ℕ)). AreEntries d f o.entries) c.items.ensures (ens.entries f e)) stands)

pub returns-clause-table : goal.returns-clause-table
returns-clause-table g c = λ f e.
    let o = c.in_ok-opened.opened in
    let ens = c.in_ok-opened.ensures in
    subst (λ (q : StoreSeen). (table : Table) × StandsFor c.args.dirs.now table f × Holds q table) (sym c.in_ok-queue.ensures)
    (opened_table c.args.dirs.now f o ens.order.ascending (subst (λ (d : List (List ℕ)). AreEntries d f o.entries) c.items.ensures (ens.entries f e)))
