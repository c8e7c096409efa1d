-- Whatever is left stands for what was found.
use Rattle.std.proofs.Common.{◌≡◌, subst, List, ℕ}
use Rattle.std.specs.Prelude.{All, IfOk, IfSome}
use Rattle.spool_store.specs.Moves.{Moves}
use Rattle.spool_store.specs.Openings.{AreEntries, AreStrays, IsFitting, IsNext}
use Rattle.spool_store.specs.Settled.{StandsFor}
use Rattle.spool_store.specs.Stores.{KeepsOthers}
use Rattle.spool_store.specs.Tidying.{IsClean, IsTidied}
use Rattle.spool_store.proofs.RecoveryLemmas.{clean_ok, ends_in, entries_ok, frame_moves, next_ok, strays_ok, stands_moves}
use Rattle.spool_store.proofs.MovesLemmas.{moves_weaker}
use Rattle.spool_store.proofs.recovery.recover.Goals as goal

pub returns-clause-stands : goal.returns-clause-stands
returns-clause-stands g c = λ table. subst (λ (d : List (List ℕ)). Moves (g.D.Spool.seen c.args.spool.now) (g.D.Spool.seen c.take_over.new.spool) (StandsFor d table) (StandsFor d table) (StandsFor d table)) c.items.ensures
    (stands_moves (g.D.Spool.seen c.args.spool.now) (g.D.Spool.seen c.take_over.new.spool) c.items.result.now table c.take_over.ensures.counts.steps (λ f e. moves_weaker _ _ _ _ _ _ _ (ends_in c.take_over.result _ _ (λ h k. k.0)) (λ h m. m) (c.take_over.ensures.tidied f e)))

pub returns-clause-tidied : goal.returns-clause-tidied
returns-clause-tidied g c = λ f e. subst (λ (d : List (List ℕ)). Moves (g.D.Spool.seen c.args.spool.now) (g.D.Spool.seen c.take_over.new.spool) (λ h. h ≡ f) (IsTidied d f) (IsTidied d f)) c.items.ensures (moves_weaker _ _ _ _ _ _ _ (ends_in c.take_over.result _ _ (λ h k. k.0)) (λ h m. m) (c.take_over.ensures.tidied f e))

pub returns-clause-frame : goal.returns-clause-frame
returns-clause-frame g c = λ f. subst (λ (d : List (List ℕ)). Moves (g.D.Spool.seen c.args.spool.now) (g.D.Spool.seen c.take_over.new.spool) (λ h. h ≡ f) (KeepsOthers d f) (KeepsOthers d f)) c.items.ensures
    (frame_moves (g.D.Spool.seen c.args.spool.now) (g.D.Spool.seen c.take_over.new.spool) c.items.result.now c.take_over.ensures.counts.steps (λ e q. moves_weaker _ _ _ _ _ _ _ (ends_in c.take_over.result _ _ (λ h k. k.0)) (λ h m. m) (c.take_over.ensures.tidied e q)) f)

pub returns-clause-fit : goal.returns-clause-fit
returns-clause-fit g c = subst (λ (d : List (List ℕ)). IfOk c.take_over.result (λ opened. All (IsFitting d) opened.entries)) c.items.ensures c.take_over.ensures.fit

pub returns-clause-entries : goal.returns-clause-entries
returns-clause-entries g c = subst (λ (d : List (List ℕ)). IfOk c.take_over.result (λ opened. IfSome (g.D.Spool.seen c.args.spool.now).told (λ f. AreEntries d f opened.entries))) c.items.ensures (entries_ok c.take_over.result (g.D.Spool.seen c.args.spool.now).told c.items.result.now c.take_over.ensures.entries)

pub returns-clause-clean : goal.returns-clause-clean
returns-clause-clean g c = subst (λ (d : List (List ℕ)). IfOk c.take_over.result (λ _. IfSome (g.D.Spool.seen c.take_over.new.spool).told (IsClean d))) c.items.ensures (clean_ok c.take_over.result (g.D.Spool.seen c.args.spool.now) (g.D.Spool.seen c.take_over.new.spool) c.items.result.now c.take_over.ensures.counts.steps c.take_over.ensures.tidied)

pub returns-clause-next : goal.returns-clause-next
returns-clause-next g c = subst (λ (d : List (List ℕ)). IfOk c.take_over.result (λ opened. IfSome (g.D.Spool.seen c.args.spool.now).told (λ f. IsNext d f opened.next))) c.items.ensures (next_ok c.take_over.result (g.D.Spool.seen c.args.spool.now).told c.items.result.now c.take_over.ensures.next)

pub returns-clause-strange : goal.returns-clause-strange
returns-clause-strange g c = subst (λ (d : List (List ℕ)). IfOk c.take_over.result (λ opened. IfSome (g.D.Spool.seen c.args.spool.now).told (λ f. AreStrays d f opened.strange))) c.items.ensures (strays_ok c.take_over.result (g.D.Spool.seen c.args.spool.now).told c.items.result.now c.take_over.ensures.strange)
