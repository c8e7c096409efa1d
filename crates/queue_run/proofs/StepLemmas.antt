-- Steps by what was done: nothing, other things than commands, or a command behind them.
use Rattle.std.proofs.Common.{◌≡◌, inl, inr, ⊎_elim, ℕ, ◌≤◌, List, [], ◌∷◌, ◌++◌, Bool, true, false, Option, Some, None, Result, Ok, Err, not, refl, sym, ◌∙◌, ap, subst, arith, append-nil}
use Rattle.std.specs.Prelude.{IfErr, OnErr, OnOk}
use Rattle.std.specs.List.{flat_map}
use Rattle.std.proofs.lemmas.Grind.{flat_map-append}
use Rattle.mail_base.specs.Histories.{Gains, Rose}
use Rattle.mail_base.specs.declared.config.Config.{Config}
use Rattle.spool_disk.specs.Disk.{FileMap}
use Rattle.spool_disk.specs.Spooled.{Leads, Reads, Rests, Spooled}
use Rattle.spool_store.specs.Entries.{Table}
use Rattle.spool_store.specs.Moves.{Becomes, Moves}
use Rattle.spool_store.specs.Parts.{IsEitherTable}
use Rattle.spool_store.specs.Settled.{IsSettled, StandsFor}
use Rattle.spool_store.specs.Stores.{KeepsOthers}
use Rattle.spool_store.proofs.MovesLemmas.{moves_join, moves_weaker}
use Rattle.queue_table.specs.Asked.{AllStop, AreStoppable, IsFront, LacksLast, Leaves, table_by}
use Rattle.queue_table.specs.Calls.{AreDirs, HoldsTable, LeadsTo, MayStop, Stays, store}
use Rattle.queue_table.specs.Commands.{Command, after, applied, changed_by, control_at}
use Rattle.queue_table.specs.declared.table.Table.{Table as Kept}
use Rattle.queue_table.proofs.AskedLemmas.{table_last}
use Rattle.queue_table.proofs.LowLemmas.{stops_may}
use Rattle.queue_run.specs.declared.runner.Did.{Did}
use Rattle.queue_run.specs.declared.runner.RunStop.{RunStop}
use Rattle.queue_run.specs.declared.runner.RunStop.TheVariants as stop
use Rattle.queue_run.specs.declared.runner.Runner.{Runner}
use Rattle.queue_run.specs.Deeds.{Asks, Deed, asked_in, born_in, dialled_in}
use Rattle.queue_run.specs.Holders.{Holder, holder_of}
use Rattle.queue_run.specs.Kinds.{Kind}
use Rattle.queue_run.specs.Meant.{Ground, IsMeant}
use Rattle.queue_run.specs.Ready.{IsReady}
use Rattle.queue_run.specs.Steps.{By, Lacks, Luck, Stepped, acted, asks, halts}
use Rattle.queue_run.specs.Working.{Bench, Comes, HasChild, HasDialerCause, HasOwnChild, HasSpawnerCause, HasSpoolCause, IsHolder, IsRead, IsWhole, KeepsChildren, Steps, Worked, holds_on, is_fault, is_well, kind_in, stepped_on}
use Rattle.queue_run.specs.inner.Puts.{Put}
use Rattle.queue_run.proofs.ReadyLemmas.{others_stay}

-- ---- what is only read

becomes_read : (a b : Option FileMap) (P Q : FileMap → Type 0) → Leads a b Rests Rests (Unit {0}) → ((g : FileMap) → P g → Q g) → Becomes a b P Q
becomes_read None None P Q h to = tt
becomes_read None (Some g) P Q h to = absurd h
becomes_read (Some f) None P Q h to = absurd h
becomes_read (Some f) (Some g) P Q h to = λ p. subst Q (sym h.0) (to f p)

pub moves_read : (a b : Spooled) (P Q R : FileMap → Type 0) → Reads a b → ((g : FileMap) → P g → Q g) → ((g : FileMap) → P g → R g) → Moves a b P Q R
moves_read a b P Q R h to any = record {
  later = h.later;
  now = becomes_read a.told b.told P Q h.now to;
  images = λ f e p t x le left. ⊎_elim (λ before. inl before) (λ (i : x ≡ f). inr (subst R (sym i) (any f p))) (h.images f e t x le left);
  kept = h.kept;
}

rests_itself : (o : Option FileMap) → Leads o o Rests Rests (Unit {0})
rests_itself None = tt
rests_itself (Some f) = (refl, λ well. refl)

pub reads_itself : (a : Spooled) → Reads a a
reads_itself a = record { later = omega arith; now = rests_itself a.told; images = λ f e t x le left. inl left; kept = λ t x left. left }

-- ---- deeds that ask no command, and one behind them

quiet_table : (T : Table) (ds : List Deed) → flat_map asked_in ds ≡ [] → table_by asked_in T ds ≡ T
quiet_table T ds quiet = ap (applied T) quiet

asked_table : (T : Table) (ds : List Deed) (c : Command) → flat_map asked_in ds ≡ [] → table_by asked_in T (ds ++ Asks c ∷ []) ≡ after T c
asked_table T ds c quiet = table_last asked_in T ds (Asks c) c refl ∙ ap (λ q. after q c) (quiet_table T ds quiet)

none_born : (ds : List Deed) (c : Command) → flat_map born_in (ds ++ Asks c ∷ []) ≡ flat_map born_in ds
none_born ds c = flat_map-append born_in ds (Asks c ∷ []) ∙ append-nil (flat_map born_in ds)

none_dialled : (ds : List Deed) (c : Command) → flat_map dialled_in (ds ++ Asks c ∷ []) ≡ flat_map dialled_in ds
none_dialled ds c = flat_map-append dialled_in ds (Asks c ∷ []) ∙ append-nil (flat_map dialled_in ds)

asked_only : (ds : List Deed) (c : Command) → flat_map asked_in ds ≡ [] → flat_map asked_in (ds ++ Asks c ∷ []) ≡ c ∷ []
asked_only ds c quiet = flat_map-append asked_in ds (Asks c ∷ []) ∙ ap (λ (q : List Command). q ++ c ∷ []) quiet

leaves_quiet : (dirs : List (List ℕ)) (T : Table) (ds : List Deed) (well : Bool) (f : FileMap) → flat_map asked_in ds ≡ [] → StandsFor dirs T f → Leaves asked_in dirs T ds well f
leaves_quiet dirs T ds true f quiet h = subst (λ (q : Table). StandsFor dirs q f) (sym (quiet_table T ds quiet)) h
leaves_quiet dirs T ds false f quiet h = inl (subst (λ (q : Table). StandsFor dirs q f) (sym (quiet_table T ds quiet)) h)

front_none : (dirs : List (List ℕ)) (T : Table) (ds : List Deed) (f : FileMap) → StandsFor dirs T f → IsFront asked_in dirs T ds f
front_none dirs T ds f h = record { done = []; rest = ds; whole = refl; stands = h }

-- nothing was asked of the spool but to be read
pub spool_quiet : (dirs : List (List ℕ)) (T : Table) (ds : List Deed) (well : Bool) (a b : Spooled) → flat_map asked_in ds ≡ [] → Reads a b → Moves a b (StandsFor dirs T) (Leaves asked_in dirs T ds well) (IsFront asked_in dirs T ds)
spool_quiet dirs T ds well a b quiet h = moves_read a b (StandsFor dirs T) (Leaves asked_in dirs T ds well) (IsFront asked_in dirs T ds) h (λ f p. leaves_quiet dirs T ds well f quiet p) (λ f p. front_none dirs T ds f p)

either_front : (dirs : List (List ℕ)) (T : Table) (ds : List Deed) (c : Command) (f : FileMap) → flat_map asked_in ds ≡ [] → IsEitherTable dirs T (after T c) f → IsFront asked_in dirs T (ds ++ Asks c ∷ []) f
either_front dirs T ds c f quiet (inl p) = front_none dirs T (ds ++ Asks c ∷ []) f p
either_front dirs T ds c f quiet (inr p) = record { done = ds ++ Asks c ∷ []; rest = []; whole = sym (append-nil (ds ++ Asks c ∷ [])); stands = subst (λ (q : Table). StandsFor dirs q f) (sym (asked_table T ds c quiet)) p }

lacks_last : (dirs : List (List ℕ)) (T : Table) (ds : List Deed) (c : Command) (f : FileMap) → flat_map asked_in ds ≡ [] → IsEitherTable dirs T (after T c) f → LacksLast asked_in dirs T (ds ++ Asks c ∷ []) f
lacks_last dirs T ds c f quiet h = record { done = ds; last = Asks c; command = c; whole = refl; asks = refl; stands = subst (λ (q : Table). IsEitherTable dirs q (after q c) f) (sym (quiet_table T ds quiet)) h }

asked_moves : (dirs : List (List ℕ)) (T : Table) (ds : List Deed) (c : Command) (r : Result Did RunStop) (a b : Spooled) (well : Bool) → flat_map asked_in ds ≡ [] → (well ≡ true → OnErr r ⊥)
    → LeadsTo dirs T (after T c) r a b → Moves a b (StandsFor dirs T) (Leaves asked_in dirs T (ds ++ Asks c ∷ []) well) (IsFront asked_in dirs T (ds ++ Asks c ∷ []))
asked_moves dirs T ds c (Ok x) a b true quiet ok h = moves_weaker a b (StandsFor dirs T) (IsSettled dirs (after T c)) (IsEitherTable dirs T (after T c)) (Leaves asked_in dirs T (ds ++ Asks c ∷ []) true) (IsFront asked_in dirs T (ds ++ Asks c ∷ []))
    (λ f p. subst (λ (q : Table). StandsFor dirs q f) (sym (asked_table T ds c quiet)) p.stands) (λ f p. either_front dirs T ds c f quiet p) h
asked_moves dirs T ds c (Ok x) a b false quiet ok h = moves_weaker a b (StandsFor dirs T) (IsSettled dirs (after T c)) (IsEitherTable dirs T (after T c)) (Leaves asked_in dirs T (ds ++ Asks c ∷ []) false) (IsFront asked_in dirs T (ds ++ Asks c ∷ []))
    (λ f p. inl (subst (λ (q : Table). StandsFor dirs q f) (sym (asked_table T ds c quiet)) p.stands)) (λ f p. either_front dirs T ds c f quiet p) h
asked_moves dirs T ds c (Err e) a b true quiet ok h = absurd (ok refl)
asked_moves dirs T ds c (Err e) a b false quiet ok h = moves_weaker a b (StandsFor dirs T) (IsEitherTable dirs T (after T c)) (IsEitherTable dirs T (after T c)) (Leaves asked_in dirs T (ds ++ Asks c ∷ []) false) (IsFront asked_in dirs T (ds ++ Asks c ∷ []))
    (λ f p. inr (lacks_last dirs T ds c f quiet p)) (λ f p. either_front dirs T ds c f quiet p) h

-- a command behind a reading
pub spool_asked : (dirs : List (List ℕ)) (T : Table) (ds : List Deed) (c : Command) (r : Result Did RunStop) (a m b : Spooled) (well : Bool) → flat_map asked_in ds ≡ [] → (well ≡ true → OnErr r ⊥)
    → Reads a m → LeadsTo dirs T (after T c) r m b → Moves a b (StandsFor dirs T) (Leaves asked_in dirs T (ds ++ Asks c ∷ []) well) (IsFront asked_in dirs T (ds ++ Asks c ∷ []))
spool_asked dirs T ds c r a m b well quiet ok reads h =
    moves_join a m b (StandsFor dirs T) (StandsFor dirs T) (Leaves asked_in dirs T (ds ++ Asks c ∷ []) well) (IsFront asked_in dirs T (ds ++ Asks c ∷ []))
    (moves_read a m (StandsFor dirs T) (StandsFor dirs T) (IsFront asked_in dirs T (ds ++ Asks c ∷ [])) reads (λ f p. p) (λ f p. front_none dirs T (ds ++ Asks c ∷ []) f p))
    (asked_moves dirs T ds c r m b well quiet ok h)

keeps_itself : (dirs : List (List ℕ)) (f g : FileMap) → g ≡ f → KeepsOthers dirs f g
keeps_itself dirs f g e place nobody = ap (λ q. Rattle.spool_disk.specs.Disk.bytes_at q place) e

-- no place of others is touched by a reading, nor by what keeps them behind one
pub frame_read : (dirs : List (List ℕ)) (a b : Spooled) → Reads a b → (f : FileMap) → Moves a b (λ g. g ≡ f) (KeepsOthers dirs f) (KeepsOthers dirs f)
frame_read dirs a b reads f = moves_read a b (λ g. g ≡ f) (KeepsOthers dirs f) (KeepsOthers dirs f) reads (λ g e. keeps_itself dirs f g e) (λ g e. keeps_itself dirs f g e)

pub frame_after : (dirs : List (List ℕ)) (a m b : Spooled) → Reads a m → ((f : FileMap) → Moves m b (λ g. g ≡ f) (KeepsOthers dirs f) (KeepsOthers dirs f)) → (f : FileMap) → Moves a b (λ g. g ≡ f) (KeepsOthers dirs f) (KeepsOthers dirs f)
frame_after dirs a m b reads frame f =
    moves_join a m b (λ g. g ≡ f) (λ g. g ≡ f) (KeepsOthers dirs f) (KeepsOthers dirs f)
    (moves_read a m (λ g. g ≡ f) (λ g. g ≡ f) (KeepsOthers dirs f) reads (λ g e. e) (λ g e. keeps_itself dirs f g e)) (frame f)

-- a stop in the command is one that the store allows
may_stop : (old : Kept) (T : Table) (ds : List Deed) (c : Command) → flat_map asked_in ds ≡ [] → HoldsTable old T → AreStoppable asked_in T (ds ++ Asks c ∷ []) → MayStop (store old) c
may_stop old T ds c quiet holds stops =
    let all : AllStop T (c ∷ []) = subst (AllStop T) (asked_only ds c quiet) stops in
    stops_may old T c holds all.0

-- ---- the store after a command

pub whole_stays : (config : Config) (old new : Kept) → IsWhole config old → Stays old new → (store new).broken ≡ (store old).broken → IsWhole config new
whole_stays config old new whole stays same = record {
  whole = same ∙ whole.whole;
  terms = stays.terms ∙ whole.terms;
  groups = subst (λ q. AreDirs q (store new).dirs) (sym stays.terms) (subst (AreDirs old.terms) (sym stays.dirs) whole.groups);
}

-- ---- steps

pub fault_well : (r : Result Did RunStop) → IfErr r (λ e. e ≡ stop.SpoolFault) → is_well r ≡ true → OnErr r ⊥
fault_well (Ok x) err h = tt
fault_well (Err e) err h = true≢false' (sym h ∙ ap (λ q. not (is_fault q)) err)
  where
    true≢false' : true ≡ false → ⊥
    true≢false' q = cc q

module _ (G : Ground) (T : Table) (old new : Kept) (before now : Runner) (a b : Bench) where
  -- a step is one by the way that it computes to
  pub steps_of : (r : Result Did RunStop) (luck : Luck) (x : Stepped) → stepped_on G T (holder_of before) luck ≡ x
      → IsMeant G before.id (control_at before.id T.entries) (kind_in G T (holder_of before)) luck
      → ((files : FileMap) → a.spool.told ≡ Some files → StandsFor (store old).dirs T files → IsRead T before.id luck)
      → Worked (store old).dirs T a b x.deeds (is_well r) → Comes G.config old new before a b x now r
      → HasSpoolCause a b r → HasSpawnerCause a.spawner.faults b.spawner.faults luck → HasDialerCause a.dialer b.dialer luck
      → Steps G T old new before now a b r
  steps_of r luck x is meant read worked comes spool spawner dialer = record {
    luck = luck;
    meant = meant;
    read = read;
    worked = subst (λ (y : Stepped). Worked (store old).dirs T a b y.deeds (is_well r)) (sym is) worked;
    comes = subst (λ (y : Stepped). Comes G.config old new before a b y now r) (sym is) comes;
    spool_cause = spool;
    spawner_cause = spawner;
    dialer_cause = dialer;
  }

  -- by its kind
  pub stepped_kind : (k : Kind) (luck : Luck) → kind_in G T (holder_of before) ≡ k → stepped_on G T (holder_of before) luck ≡ acted G.config G.moment T (holder_of before) k luck
  stepped_kind k luck kind = ap (λ q. acted G.config G.moment T (holder_of before) q luck) kind

  -- what of a step isn't the spool's
  pub record Others (deeds : List Deed) : Type 0 where
    pub spawner : Gains a.spawner.told b.spawner.told (flat_map born_in deeds)
    pub dialer : Gains a.dialer.told b.dialer.told (flat_map dialled_in deeds)
    pub spawner_faults : a.spawner.faults ≤ b.spawner.faults
    pub dialer_faults : a.dialer.faults ≤ b.dialer.faults

  pub worked_quiet : (ds : List Deed) (well : Bool) → flat_map asked_in ds ≡ [] → Reads a.spool b.spool → a.spool.faults ≤ b.spool.faults → Others ds → Worked (store old).dirs T a b ds well
  worked_quiet ds well quiet reads later others = record {
    spool = λ stops. spool_quiet (store old).dirs T ds well a.spool b.spool quiet reads;
    frame = λ f. frame_read (store old).dirs a.spool b.spool reads f;
    spawner = others.spawner;
    dialer = others.dialer;
    spool_faults = later;
    spawner_faults = others.spawner_faults;
    dialer_faults = others.dialer_faults;
  }

  pub worked_asked : (ds : List Deed) (c : Command) (d : Did) (r : Result Did RunStop) (m : Spooled) (well : Bool) → flat_map asked_in ds ≡ [] → (well ≡ true → OnErr r ⊥) → HoldsTable old T
      → Reads a.spool m → a.spool.faults ≤ m.faults → Put old new c d r m b.spool → Others ds → Worked (store old).dirs T a b (ds ++ Asks c ∷ []) well
  worked_asked ds c d r m well quiet ok holds reads less put others = record {
    spool = λ stops. spool_asked (store old).dirs T ds c r a.spool m b.spool well quiet ok reads (put.moves T holds (may_stop old T ds c quiet holds stops));
    frame = λ f. frame_after (store old).dirs a.spool m b.spool reads put.frame f;
    spawner = subst (Gains a.spawner.told b.spawner.told) (sym (none_born ds c)) others.spawner;
    dialer = subst (Gains a.dialer.told b.dialer.told) (sym (none_dialled ds c)) others.dialer;
    spool_faults = let q = put.later in omega (arith, less, q);
    spawner_faults = others.spawner_faults;
    dialer_faults = others.dialer_faults;
  }

  rose_more : (x y z : ℕ) → y ≡ x → Rose y z → Rose x z
  rose_more x y z e rose = subst (λ q. Rose q z) e rose

  fault_cause : (e : RunStop) → e ≡ stop.SpoolFault → Rose a.spool.faults b.spool.faults → HasSpoolCause a b (Err e)
  fault_cause e is rose = subst (λ q. HasSpoolCause a b (Err q)) (sym is) rose

  -- the run ends before anything is asked
  pub steps_early : (k : Kind) (cause : RunStop) → kind_in G T (holder_of before) ≡ k
      → acted G.config G.moment T (holder_of before) k (Lacks cause) ≡ halts T (holder_of before) (By cause)
      → Reads a.spool b.spool → a.spool.faults ≤ b.spool.faults → Others [] → HasSpoolCause a b (Err cause) → b.spawner.faults ≡ a.spawner.faults → b.dialer ≡ a.dialer
      → Steps G T old new before now a b (Err cause)
  steps_early k cause kind acts reads later others spool spawner dialer =
      steps_of (Err cause) (Lacks cause) (halts T (holder_of before) (By cause)) (stepped_kind k (Lacks cause) kind ∙ acts)
      tt (λ files e stands. tt) (worked_quiet [] (not (is_fault cause)) refl reads later others) refl spool spawner dialer

  -- a command was asked, behind other deeds
  pub steps_asked : (luck : Bool → Luck) (ds : List Deed) (next : Holder) (c : Command) (d : Did) (r : Result Did RunStop) (m : Spooled)
      → ((failed : Bool) → stepped_on G T (holder_of before) (luck failed) ≡ asks T next ds c d failed)
      → ((failed : Bool) → IsMeant G before.id (control_at before.id T.entries) (kind_in G T (holder_of before)) (luck failed))
      → ((failed : Bool) (files : FileMap) → a.spool.told ≡ Some files → StandsFor (store old).dirs T files → IsRead T before.id (luck failed))
      → ((failed : Bool) → HasSpawnerCause a.spawner.faults b.spawner.faults (luck failed))
      → ((failed : Bool) → HasDialerCause a.dialer b.dialer (luck failed))
      → flat_map asked_in ds ≡ [] → holds_on d ≡ true → changed_by c ≡ Some before.id
      → HoldsTable old T → IsWhole G.config old → Reads a.spool m → m.faults ≡ a.spool.faults → Put old new c d r m b.spool → Others ds
      → OnOk r (IsReady new now) → HasChild b.spawner now → KeepsChildren a.spawner b.spawner before → HasOwnChild a.spawner before now → ((h : Option Holder) → h ≡ Some next → IsHolder d now h)
      → Steps G T old new before now a b r
  steps_asked luck ds next c d (Ok answer) m stepped meant read spawner dialer quiet held changes holds whole reads same put others ready child children own holder =
      steps_of (Ok answer) (luck false) (asks T next ds c d false) (stepped false) (meant false) (read false)
      (worked_asked ds c d (Ok answer) m true quiet (λ e. tt) holds reads (omega (arith, same)) put others)
      (record {
        goes = refl;
        came = sym put.ok;
        holder = subst (λ q. IsHolder q now (Some next)) (sym put.ok) (holder (Some next) refl);
        holds = put.holds T holds;
        whole = whole_stays G.config old new whole put.stays put.whole;
        agrees = put.agrees;
        stays = put.stays;
        ready = λ e. ready;
        others = others_stay old new T c before.id holds (put.holds T holds) changes;
        child = child;
        children = children;
        own = own;
      })
      (put.calm ∙ same) (spawner false) (dialer false)
  steps_asked luck ds next c d (Err cause) m stepped meant read spawner dialer quiet held changes holds whole reads same put others ready child children own holder =
      steps_of (Err cause) (luck true) (asks T next ds c d true) (stepped true) (meant true) (read true)
      (worked_asked ds c d (Err cause) m (not (is_fault cause)) quiet (fault_well (Err cause) put.err) holds reads (omega (arith, same)) put others)
      (ap (λ q. Some (By q)) (sym put.err)) (fault_cause cause put.err (rose_more a.spool.faults m.faults b.spool.faults same put.cause)) (spawner true) (dialer true)
