-- A commit under an entry, or one that failed.
use Rattle.std.proofs.Common.{inl, inr, Some, refl, ap, subst}
use Rattle.std.specs.Prelude.{IfSome}
use Rattle.mail_base.specs.declared.fault.StoreFault.TheVariants.{SpoolFault}
use Rattle.spool_store.specs.Entries.{Table}
use Rattle.spool_store.specs.Keepers.{seen}
use Rattle.spool_store.specs.Settled.{IsSettled}
use Rattle.spool_store.specs.Stores.{StoreSeen}
use Rattle.spool_store.specs.Writes.{after_commit}
use Rattle.queue_table.specs.Calls.{store}
use Rattle.queue_table.specs.Commands.{after}
use Rattle.queue_table.proofs.CallLemmas.{broken_holds, broken_stays, leads_done, leads_failed, no_fault, under_holds}
use Rattle.queue_table.proofs.table.Table.commit_under.Goals as goal

pub returns-in-Ok-clause-does : goal.returns-in-Ok-clause-does
returns-in-Ok-clause-does g c = λ id command m.
    let kept = c.args.self.now in
    let parcel = c.args.parcel in
    let done = c.in-Ok.ensures.ok id m.children m.parent parcel.body m.is in
    record {
      moves = λ table holds may. leads_done (store kept).dirs table (after_commit table m.children m.parent parcel.body (Some id)) (after table command) _ _ (m.leads table holds) (c.in-Ok.ensures.moves table id m.children m.parent parcel.body holds m.is (m.last may));
      settled = λ table f holds told stands. subst (λ (q : Table). IfSome (g.D.Spool.seen c.commit_under.new.spool).told (IsSettled (store kept).dirs q)) (m.leads table holds) (c.in-Ok.ensures.settled table id m.children m.parent parcel.body f holds m.is told stands);
      holds = λ table holds. under_holds kept id command parcel m (seen c.commit_under.new.self) table holds done (c.holding_goes_on.ensures.commit_under (store kept) table id m.children m.parent parcel.body holds);
      kept = λ table holds. tt;
      agrees = c.in-Ok.ensures.agrees;
      frame = c.commit_under.ensures.frame;
      stays = record { terms = refl; dirs = ap (λ (q : StoreSeen). q.dirs) done; strange = ap (λ (q : StoreSeen). q.strange) done };
      whole = ap (λ (q : StoreSeen). q.broken) done;
      fault = λ f. absurd (no_fault tt SpoolFault f);
      later = c.commit_under.ensures.later;
      calm = inr c.in-Ok.ensures.calm;
      cause = λ f. absurd (no_fault tt SpoolFault f);
    }

pub returns-in-Err-clause-does : goal.returns-in-Err-clause-does
returns-in-Err-clause-does g c = λ id command m.
    let kept = c.args.self.now in
    let same = broken_stays (store kept) (seen c.commit_under.new.self) c.in-Err.ensures.err in
    record {
      moves = λ table holds may. leads_failed (store kept).dirs table (after_commit table m.children m.parent c.args.parcel.body (Some id)) (after table command) _ _ (m.leads table holds) (c.in-Err.ensures.moves table id m.children m.parent c.args.parcel.body holds m.is (m.last may));
      settled = λ table f holds told stands. tt;
      holds = λ table holds. tt;
      kept = λ table holds. broken_holds (store kept) (seen c.commit_under.new.self) table c.in-Err.ensures.err holds;
      agrees = tt;
      frame = c.commit_under.ensures.frame;
      stays = record { terms = refl; dirs = same.0; strange = same.1 };
      whole = tt;
      fault = λ f. ap (λ (q : StoreSeen). q.broken) c.in-Err.ensures.err;
      later = c.commit_under.ensures.later;
      calm = inl refl;
      cause = λ f. c.in-Err.ensures.cause;
    }
