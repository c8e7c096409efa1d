-- What a call does of what it commits, and what one that fails before leaves.
use Rattle.std.proofs.Common.{◌≡◌, ◌⊎◌, inl, inr, ⊎_elim, ℕ, List, Option, Some, None, Result, Ok, Err, true, refl, sym, ◌∙◌, ap, subst}
use Rattle.std.specs.Prelude.{IfSome, IsErrOf, OnOk, OnErr}
use Rattle.std.proofs.Math.Nat.{le_refl}
use Rattle.std.proofs.lemmas.Result.{on_ok_weaker}
use Rattle.mail_base.specs.Histories.{Rose}
use Rattle.mail_base.specs.declared.control.Draft.{Draft}
use Rattle.mail_base.specs.declared.fault.StoreFault.{StoreFault}
use Rattle.mail_base.specs.declared.fault.StoreFault.TheVariants.{IdsSpent, NoMemory, SpoolFault}
use Rattle.mail_base.specs.declared.message.Cut.{Cut}
use Rattle.mail_base.specs.declared.message.Message.{Message}
use Rattle.spool_disk.specs.Disk.{FileMap, bytes_at}
use Rattle.spool_disk.specs.Spooled.{Spooled}
use Rattle.spool_store.specs.Entries.{Table}
use Rattle.spool_store.specs.Moves.{Becomes, Ends, Moves}
use Rattle.spool_store.specs.Parcels.{IsBelowLast, with_children, with_commit}
use Rattle.spool_store.specs.Parts.{IsEitherTable}
use Rattle.spool_store.specs.Settled.{IsSettled, StandsFor}
use Rattle.spool_store.specs.Stores.{Holds, KeepsOthers, StoreSeen}
use Rattle.spool_store.specs.Writes.{after_commit}
use Rattle.spool_store.specs.declared.held.Held.{Held}
use Rattle.spool_store.specs.declared.parcel.Parcel.{Parcel}
use Rattle.spool_store.proofs.MovesLemmas.{moves_none, told_after}
use Rattle.queue_table.specs.Calls.{CarriesOut, HoldsTable, IsAccepting, IsSame, LeadsTo, MayStop, broken_one, store}
use Rattle.queue_table.specs.Commands.{Command, accepted, after, draft_of, drafts_of}
use Rattle.queue_table.specs.Commands.Command.{Accept, Record, Return, Warn}
use Rattle.queue_table.specs.declared.accepting.Accepting.{Accepting}
use Rattle.queue_table.specs.declared.table.Table.{Table as Kept}
use Rattle.queue_table.specs.inner.Planning.{Makes}
use Rattle.queue_table.proofs.HoldingLemmas.{holds_same}

-- the fault that is told
pub fault_of : {T : Type 0} (e d : StoreFault) → IsErrOf {T = T} (Err e) d → e ≡ d
fault_of e d is = cc is

pub no_fault : {T : Type 0} (x : T) (d : StoreFault) → IsErrOf {T = T} (Ok x) d → ⊥
no_fault x d is = cc is

-- a command that fails before it writes
pub not_done : {T : Type 0} (old new : Kept) (command : Command) (e : StoreFault) (a : Spooled) → IsSame old new → (e ≡ SpoolFault → (store old).broken ≡ true) → CarriesOut {T = T} old new command (Err e) a a
not_done old new command e a same why = record {
  moves = λ table holds may. moves_none a (StandsFor (store old).dirs table) (IsEitherTable (store old).dirs table (after table command)) (IsEitherTable (store old).dirs table (after table command)) (λ f s. inl s);
  settled = λ table f holds told stands. tt;
  holds = λ table holds. tt;
  kept = λ table holds. holds_same (store old) (store new) table same.1 holds;
  agrees = tt;
  frame = λ f. moves_none a (λ g. g ≡ f) (KeepsOthers (store old).dirs f) (KeepsOthers (store old).dirs f) (λ g same place nobody. ap (λ (q : FileMap). bytes_at q place) same);
  stays = record { terms = same.0; dirs = ap (λ (q : StoreSeen). q.dirs) same.1; strange = ap (λ (q : StoreSeen). q.strange) same.1 };
  whole = tt;
  fault = λ is. ap (λ (q : StoreSeen). q.broken) same.1 ∙ why (fault_of e SpoolFault is);
  later = le_refl a.faults;
  calm = inr refl;
  cause = λ is. inl (why (fault_of e SpoolFault is));
}

may_same : (s m : StoreSeen) (command : Command) → m.entries ≡ s.entries → MayStop s command → MayStop m command
may_same s m (Accept terms message cuts moment) e h = tt
may_same s m (Record terms id places results moment) e h = tt
may_same s m (Return terms id bounces moment) e h = subst (λ (q : List Held). IsBelowLast q id) (sym e) h
may_same s m (Warn terms id warnings moment) e h = subst (λ (q : List Held). IsBelowLast q id) (sym e) h

-- a command that is carried out after its plan
pub done_after : {T : Type 0} (old mid new : Kept) (command : Command) (r : Result T StoreFault) (a b : Spooled) → IsSame old mid → CarriesOut mid new command r a b → CarriesOut old new command r a b
done_after old mid new command r a b same d =
    let dirs : (store mid).dirs ≡ (store old).dirs = ap (λ (q : StoreSeen). q.dirs) same.1 in
    let broken : (store mid).broken ≡ (store old).broken = ap (λ (q : StoreSeen). q.broken) same.1 in
    record {
      moves = λ table holds may. subst (λ (q : List (List ℕ)). LeadsTo q table (after table command) r a b) dirs (d.moves table (holds_same (store old) (store mid) table same.1 holds) (may_same (store old) (store mid) command (ap (λ (q : StoreSeen). q.entries) same.1) may));
      settled = λ table f holds told stands. subst (λ (q : List (List ℕ)). OnOk r (IfSome b.told (IsSettled q (after table command)))) dirs (d.settled table f (holds_same (store old) (store mid) table same.1 holds) told (subst (λ (q : List (List ℕ)). StandsFor q table f) (sym dirs) stands));
      holds = λ table holds. d.holds table (holds_same (store old) (store mid) table same.1 holds);
      kept = λ table holds. d.kept table (holds_same (store old) (store mid) table same.1 holds);
      agrees = d.agrees;
      frame = λ f. subst (λ (q : List (List ℕ)). Moves a b (λ g. g ≡ f) (KeepsOthers q f) (KeepsOthers q f)) dirs (d.frame f);
      stays = record { terms = d.stays.terms ∙ same.0; dirs = d.stays.dirs ∙ dirs; strange = d.stays.strange ∙ ap (λ (q : StoreSeen). q.strange) same.1 };
      whole = on_ok_weaker r (λ e. e ∙ broken) d.whole;
      fault = d.fault;
      later = d.later;
      calm = d.calm;
      cause = λ is. ⊎_elim (λ (h : (store mid).broken ≡ true). inl (sym broken ∙ h)) (λ (rose : Rose a.faults b.faults). inr rose) (d.cause is);
    }

-- the told files after a run from files that are told
pub settled_now : (a b : Option FileMap) (P Q : FileMap → Type 0) (f : FileMap) → Becomes a b P Q → a ≡ Some f → P f → IfSome b Q
settled_now a b P Q f h told p =
    let m = told_after a b P Q h f told p in
    subst (λ (q : Option FileMap). IfSome q Q) (sym m.1) m.2

-- the same way to a table by its other name
pub leads_done : (dirs : List (List ℕ)) (table t u : Table) (a b : Spooled) → t ≡ u → Moves a b (StandsFor dirs table) (IsSettled dirs t) (IsEitherTable dirs table t) → Moves a b (StandsFor dirs table) (IsSettled dirs u) (IsEitherTable dirs table u)
leads_done dirs table t u a b e h = subst (λ (q : Table). Moves a b (StandsFor dirs table) (IsSettled dirs q) (IsEitherTable dirs table q)) e h

pub leads_failed : (dirs : List (List ℕ)) (table t u : Table) (a b : Spooled) → t ≡ u → Moves a b (StandsFor dirs table) (IsEitherTable dirs table t) (IsEitherTable dirs table t) → Moves a b (StandsFor dirs table) (IsEitherTable dirs table u) (IsEitherTable dirs table u)
leads_failed dirs table t u a b e h = subst (λ (q : Table). Moves a b (StandsFor dirs table) (IsEitherTable dirs table q) (IsEitherTable dirs table q)) e h

pub leads_by : {T E : Type 0} (dirs : List (List ℕ)) (table t u : Table) (r : Result T E) (a b : Spooled) → t ≡ u → Moves a b (StandsFor dirs table) (Ends r (IsSettled dirs t) (IsEitherTable dirs table t)) (IsEitherTable dirs table t) → LeadsTo dirs table u r a b
leads_by dirs table t u r a b e h = subst (λ (q : Table). LeadsTo dirs table q r a b) e h

-- a broken store holds what it held
pub broken_holds : (s new : StoreSeen) (table : Table) → new ≡ broken_one s → Holds s table → Holds new table
broken_holds s new table e h = subst (λ (q : StoreSeen). Holds q table) (sym e) (record { entries = h.entries; next = h.next })

pub broken_stays : (s new : StoreSeen) → new ≡ broken_one s → (new.dirs ≡ s.dirs) × (new.strange ≡ s.strange)
broken_stays s new e = (ap (λ (q : StoreSeen). q.dirs) e, ap (λ (q : StoreSeen). q.strange) e)

-- a commit of what was planned makes what the command does
pub accept_leads : (kept : Kept) (message : Message) (cuts : List Cut) (moment : ℕ) (accepting : Accepting) (is : IsAccepting kept message cuts moment accepting) (table : Table) → after_commit table (drafts_of kept.terms message moment is.rest) (draft_of kept.terms message moment is.first) message.body None ≡ after table (Accept kept.terms message cuts moment)
accept_leads kept message cuts moment accepting is table = sym (ap (λ (q : List Cut). accepted kept.terms message q moment table) is.whole)

pub accept_holds : {T E : Type 0} (kept : Kept) (message : Message) (cuts : List Cut) (moment : ℕ) (accepting : Accepting) (r : Result T E) (new : StoreSeen) (table : Table) (is : IsAccepting kept message cuts moment accepting) → OnOk r (new ≡ with_commit (store kept) (drafts_of kept.terms message moment is.rest) (draft_of kept.terms message moment is.first))
    → Holds (with_commit (store kept) (drafts_of kept.terms message moment is.rest) (draft_of kept.terms message moment is.first)) (after_commit table (drafts_of kept.terms message moment is.rest) (draft_of kept.terms message moment is.first) message.body None)
    → OnOk r (Holds new (after table (Accept kept.terms message cuts moment)))
accept_holds kept message cuts moment accepting r new table is ok holds =
    on_ok_weaker r (λ e. subst (λ (q : StoreSeen). Holds q (after table (Accept kept.terms message cuts moment))) (sym e) (subst (Holds (with_commit (store kept) (drafts_of kept.terms message moment is.rest) (draft_of kept.terms message moment is.first))) (accept_leads kept message cuts moment accepting is table) holds)) ok

-- of the directories, the strange files and whether it is broken
pub commit_stays : {T E : Type 0} (r : Result T E) (s new : StoreSeen) (children : List Draft) (parent : Draft) → OnOk r (new ≡ with_commit s children parent) → OnErr r (new ≡ broken_one s) → (new.dirs ≡ s.dirs) × (new.strange ≡ s.strange)
commit_stays (Ok x) s new children parent ok err = (ap (λ (q : StoreSeen). q.dirs) ok, ap (λ (q : StoreSeen). q.strange) ok)
commit_stays (Err e) s new children parent ok err = broken_stays s new err

pub commit_whole : {T E : Type 0} (r : Result T E) (s new : StoreSeen) (children : List Draft) (parent : Draft) → OnOk r (new ≡ with_commit s children parent) → OnOk r (new.broken ≡ s.broken)
commit_whole r s new children parent ok = on_ok_weaker r (λ e. ap (λ (q : StoreSeen). q.broken) e) ok

-- of a command under an entry
pub under_holds : (kept : Kept) (id : ℕ) (command : Command) (parcel : Parcel) (m : Makes kept id command parcel) (new : StoreSeen) (table : Table) → HoldsTable kept table → new ≡ with_children (store kept) id m.children m.parent → Holds (with_children (store kept) id m.children m.parent) (after_commit table m.children m.parent parcel.body (Some id)) → Holds new (after table command)
under_holds kept id command parcel m new table holds e h = subst (λ (q : StoreSeen). Holds q (after table command)) (sym e) (subst (Holds (with_children (store kept) id m.children m.parent)) (m.leads table holds) h)

-- what fails by the spool fails by nothing else
pub not_spent : {T : Type 0} (r : Result T StoreFault) → OnErr r (IsErrOf r SpoolFault) → IsErrOf r IdsSpent → ⊥
not_spent (Ok x) only is = cc is
not_spent (Err e) only is = cc (only, is)

not_lacking : {T : Type 0} (r : Result T StoreFault) → OnErr r (IsErrOf r SpoolFault) → IsErrOf r NoMemory → ⊥
not_lacking (Ok x) only is = cc is
not_lacking (Err e) only is = cc (only, is)

pub not_refused : {T : Type 0} (r : Result T StoreFault) → OnErr r (IsErrOf r SpoolFault) → IsErrOf r NoMemory ⊎ IsErrOf r IdsSpent → ⊥
not_refused r only (inl is) = not_lacking r only is
not_refused r only (inr is) = not_spent r only is
