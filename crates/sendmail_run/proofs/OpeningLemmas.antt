-- What a run that serves opens, and how it ends where it doesn't.
use Rattle.std.proofs.Common.{◌≡◌, ◌≢◌, ℕ, ◌+◌, ◌≤◌, List, [], ◌∷◌, map, Option, Some, None, Result, Ok, Err, true, false, refl, sym, ◌∙◌, ap, subst, arith, inl, inr}
use Rattle.std.proofs.Math.Nat.{le_refl}
use Rattle.std.specs.Prelude.{IfOk, IfSome, IsErrOf, ◌⊎◌}
use Rattle.std.specs.List.{AllZip}
use Rattle.mail_base.specs.Histories.{Gains, Rose}
use Rattle.mail_base.proofs.Gaining.{gains_none}
use Rattle.mail_base.specs.declared.config.Config.{Config}
use Rattle.mail_base.specs.declared.fault.NoMemory.{NoMemory}
use Rattle.mail_base.specs.declared.fault.StoreFault.{StoreFault}
use Rattle.mail_base.specs.declared.fault.StoreFault.TheVariants as faults
use Rattle.mail_edge.specs.Seen.{ClockSeen}
use Rattle.link_edge.specs.Heard.{Heard}
use Rattle.spawn_edge.specs.Spawned.{Spawned}
use Rattle.spool_disk.specs.Disk.{FileMap}
use Rattle.spool_disk.specs.Spooled.{Spooled}
use Rattle.spool_store.specs.Entries.{Stored, Table}
use Rattle.spool_store.specs.Keepers.{IsReading, seen as queue_seen}
use Rattle.spool_store.specs.Moves.{Moves}
use Rattle.spool_store.specs.Openings.{AreStrays}
use Rattle.spool_store.specs.Settled.{StandsFor}
use Rattle.spool_store.specs.Stores.{Agrees, Holds, IsAtRest, IsHeld, StoreSeen}
use Rattle.spool_store.specs.Tidying.{IsTidied, IsTidiedAt, IsTidiedBody}
use Rattle.spool_store.specs.declared.held.Held.{Held}
use Rattle.spool_store.specs.declared.queue.Queue.{Queue}
use Rattle.spool_store.proofs.MovesLemmas.{moves_none}
use Rattle.queue_table.specs.Directories.{all_dirs, terms_of}
use Rattle.queue_table.specs.declared.table.Table.{Table as Kept}
use Rattle.queue_table.specs.declared.terms.Terms.{Terms}
use Rattle.queue_table.proofs.DirLemmas.{each_is_there}
use Rattle.map_tables.specs.Answers.{Loaded}
use Rattle.mail_core.specs.declared.serving.Core.{Core}
use Rattle.mail_core.specs.Crews.{IsManned}
use Rattle.mail_core.specs.Judges.{JudgeSeen}
use Rattle.mail_core.specs.Messages.{start}
use Rattle.mail_core.specs.Plans.{Plan, Serve, Once}
use Rattle.mail_core.specs.Seen.{Hands, IsSparing, beside, seen}
use Rattle.mail_core.specs.Sites.{Site}
use Rattle.mail_core.specs.Standing.{Begins, MayGoOn, Stores, table_of}
use Rattle.mail_core.proofs.SparingLemmas.{LeavesStrange, sparing_opening}
use Rattle.sendmail_run.specs.declared.outcome.Outcome.TheVariants as outcomes
use Rattle.sendmail_run.specs.declared.serving_mode.ServeEnd.{ServeEnd}
use Rattle.sendmail_run.specs.declared.serving_mode.ServeEnd.TheVariants as ends
use Rattle.sendmail_run.specs.declared.task.Task.{Task}
use Rattle.sendmail_run.specs.Outcomes.{of_serving}
use Rattle.sendmail_run.specs.Rises.{RisesOnlyAt}
use Rattle.sendmail_run.specs.Serving.{IsReadFor, IsTakenOver, IsUnserved, Serves, from_id, host_of, site_of}
use Rattle.sendmail_run.specs.Tasks.{plan_of}
use Rattle.sendmail_run.specs.inner.Opened.{AreManned, HasBegun, IsFound, has_lost_files}

-- ---- what an opening leaves

tidied_none : (dirs : List (List ℕ)) (f g : FileMap) → g ≡ f → IsTidied dirs f g
tidied_none dirs f g is = subst (IsTidied dirs f) (sym is) (record {
  controls = λ s spot. IsTidiedAt.stays refl;
  bodies = λ dir id among within. IsTidiedBody.stays refl;
  drafts = λ dir id among within. inl refl;
  others = λ place foreign. refl;
})

-- no call at all leaves the queue as it was
pub taken_none : (dirs : List (List ℕ)) (s : Spooled) → IsTakenOver dirs s s
taken_none dirs s = record {
  stands = λ table. moves_none s (StandsFor dirs table) (StandsFor dirs table) (StandsFor dirs table) (λ f stands. stands);
  tidied = λ f told. moves_none s (λ g. g ≡ f) (IsTidied dirs f) (IsTidied dirs f) (tidied_none dirs f);
}

-- what an opening of these directories leaves, which are those of the site
pub taken_of : (site : Site) (s t : Spooled) (dirs : List (List ℕ)) → dirs ≡ site.dirs
    → ((table : Table) → Moves s t (StandsFor dirs table) (StandsFor dirs table) (StandsFor dirs table))
    → ((f : FileMap) → s.told ≡ Some f → Moves s t (λ g. g ≡ f) (IsTidied dirs f) (IsTidied dirs f)) → IsTakenOver site.dirs s t
taken_of site s t dirs same stands tidied = subst (λ (d : List (List ℕ)). IsTakenOver d s t) same (record { stands = stands; tidied = tidied })

-- what it leaves alone stays, and is left alone still
pub sparing_of : (site : Site) (s t : Spooled) (dirs : List (List ℕ)) (store : StoreSeen) → store.dirs ≡ dirs → dirs ≡ site.dirs → LeavesStrange
    → ((table : Table) → Moves s t (StandsFor dirs table) (StandsFor dirs table) (StandsFor dirs table))
    → ((f : FileMap) → s.told ≡ Some f → Moves s t (λ g. g ≡ f) (IsTidied dirs f) (IsTidied dirs f)) → ((f : FileMap) → s.told ≡ Some f → IsReading dirs f store) → IfSome t.told (Agrees store) → IsSparing site.dirs s t true
sparing_of site s t dirs store own same law stands tidied read agrees = subst (λ (d : List (List ℕ)). IsSparing d s t true) (own ∙ same)
    (sparing_opening store s t (StandsFor dirs start) (StandsFor dirs start) (StandsFor dirs start) law (stands start)
    (λ f told. subst (λ (d : List (List ℕ)). AreStrays d f store.strange) (sym own) (read f told).strange) agrees
    (λ f told. subst (λ (d : List (List ℕ)). Moves s t (λ g. g ≡ f) (IsTidied d f) (IsTidied d f)) (sym own) (tidied f told)))

-- ---- where the queue isn't opened

-- the clock wasn't read
pub unread : (plan : Plan) (clock : ClockSeen) → IsReadFor plan clock clock
unread (Serve wait) clock = refl
unread (Once group) clock = inl refl

-- nothing is served
pub unserved : (site : Site) (s t : Spooled) (floor : Heard) (c d : ClockSeen) (hands : Hands) → IsReadFor site.plan c d → IsTakenOver site.dirs s t → s.faults ≤ t.faults → IsUnserved site (seen floor s (beside c hands)) (seen floor t (beside d hands))
unserved site s t floor c d hands read taken later = record { floor = refl; hands = refl; clock = read; spool = taken; spool_faults = later }

-- nothing is served where no call was made
pub untouched : (site : Site) (s : Spooled) (floor : Heard) (clock : ClockSeen) (hands : Hands) → IsUnserved site (seen floor s (beside clock hands)) (seen floor s (beside clock hands))
untouched site s floor clock hands = unserved site s s floor clock clock hands (unread site.plan clock) (taken_none site.dirs s) (le_refl s.faults)

-- a fault of the opening ends the run so
pub serves_unopened : (j : JudgeSeen) (count : ℕ) (site : Site) (task : Task) (s t : Spooled) (floor : Heard) (clock : ClockSeen) (hands : Hands) (fault : StoreFault) (end : ServeEnd) → (fault ≡ faults.SpoolFault → end ≡ ends.NotOpened) → (fault ≢ faults.SpoolFault → end ≡ ends.NoMemory)
    → IsTakenOver site.dirs s t → s.faults ≤ t.faults → (IsErrOf {T = Queue} (Err fault) faults.SpoolFault → Rose s.faults t.faults) → Serves j count site task (seen floor s (beside clock hands)) (seen floor t (beside clock hands)) end
serves_unopened j count site task s t floor clock hands faults.SpoolFault end broke memory taken later rose =
    subst (Serves j count site task (seen floor s (beside clock hands)) (seen floor t (beside clock hands))) (sym (broke refl)) (unserved site s t floor clock clock hands (unread site.plan clock) taken later, rose refl)
serves_unopened j count site task s t floor clock hands faults.IdsSpent end broke memory taken later rose =
    subst (Serves j count site task (seen floor s (beside clock hands)) (seen floor t (beside clock hands))) (sym (memory (λ e. cc e))) (unserved site s t floor clock clock hands (unread site.plan clock) taken later)
serves_unopened j count site task s t floor clock hands faults.NoMemory end broke memory taken later rose =
    subst (Serves j count site task (seen floor s (beside clock hands)) (seen floor t (beside clock hands))) (sym (memory (λ e. cc e))) (unserved site s t floor clock clock hands (unread site.plan clock) taken later)

-- no files were asked then
pub quiet_by : (fault : StoreFault) (end : ServeEnd) → (fault ≡ faults.SpoolFault → end ≡ ends.NotOpened) → (fault ≢ faults.SpoolFault → end ≡ ends.NoMemory) → has_lost_files end ≡ false
quiet_by faults.SpoolFault end broke memory = ap has_lost_files (broke refl)
quiet_by faults.IdsSpent end broke memory = ap has_lost_files (memory (λ e. cc e))
quiet_by faults.NoMemory end broke memory = ap has_lost_files (memory (λ e. cc e))

-- and only a fault of the spool raises the count of its faults
pub rises_by : (before after : ℕ) (fault : StoreFault) (end : ServeEnd) → (fault ≡ faults.SpoolFault → end ≡ ends.NotOpened) → IsErrOf {T = Queue} (Err fault) faults.SpoolFault ⊎ (after ≡ before) → RisesOnlyAt outcomes.SpoolFault (of_serving end) before after
rises_by before after fault end broke (inl is) = let same : fault ≡ faults.SpoolFault = cc (is) in inl (ap (λ (e : ServeEnd). of_serving e) (broke same))
rises_by before after fault end broke (inr same) = inr same

-- ---- where it is

abbrev bodiless : Held → Stored
bodiless h = record { id = h.entry.id; dir = h.entry.dir; control = h.entry.control; body = [] }

all_held : (hs : List Held) → AllZip IsHeld hs (map bodiless hs)
all_held [] = tt
all_held (h ∷ hs) = (record { id = refl; dir = refl; control = refl }, all_held hs)

-- a store that was opened, by what is told of the files
found_at : (dirs : List (List ℕ)) (told : Option FileMap) (store : StoreSeen) → ((f : FileMap) → told ≡ Some f → IsReading dirs f store) → ((f : FileMap) → told ≡ Some f → (table : Table) × StandsFor dirs table f × Holds store table)
    → ((table : Table) (f : FileMap) → told ≡ Some f → StandsFor dirs table f → Holds store (from_id store.next table)) → IsFound dirs told store
found_at dirs None store read table holds = record {
  first = tt;
  some = record { entries = map bodiless store.entries; next = store.next };
  stands = tt;
  holds = record { entries = all_held store.entries; next = refl };
  each = λ f t told stands. absurd (cc (told));
}
found_at dirs (Some f) store read table holds =
    let one = table f refl in record {
      first = (read f refl).next;
      some = one.0;
      stands = one.1;
      holds = one.2;
      each = λ g t told stands. holds t g told stands;
    }

-- the same of the site's directories
pub found_of : (site : Site) (dirs : List (List ℕ)) (told : Option FileMap) (store : StoreSeen) → dirs ≡ site.dirs → ((f : FileMap) → told ≡ Some f → IsReading dirs f store) → ((f : FileMap) → told ≡ Some f → (table : Table) × StandsFor dirs table f × Holds store table)
    → ((table : Table) (f : FileMap) → told ≡ Some f → StandsFor dirs table f → Holds store (from_id store.next table)) → IsFound site.dirs told store
found_of site dirs told store same read table holds = subst (λ (d : List (List ℕ)). IsFound d told store) same (found_at dirs told store read table holds)

-- no maps: what is said of directories alone hangs on none
abbrev pub no_maps : Loaded
no_maps = record { maps = []; hosts = [] }

-- a core over a table that began
pub begun_over : (config : Config) (queue : Queue) (kept : Kept) (host : List ℕ) (task : Task) (c d : ClockSeen) (r : Result Core NoMemory) → host ≡ host_of config.macros → kept ≡ record { queue = queue; terms = terms_of config } → (queue_seen queue).broken ≡ false
    → (queue_seen queue).dirs ≡ all_dirs (terms_of config)
    → IfOk r (λ core. (site : Site) (table : Table) → site.host ≡ host → site.config ≡ config → site.plan ≡ plan_of task → Stores site kept table → HasBegun site core table c d)
    → IfOk r (λ core. (maps : Loaded) (table : Table) → Holds (queue_seen queue) table → HasBegun (site_of config maps (plan_of task)) core table c d)
begun_over config queue kept host task c d (Ok core) named is whole dirs made = λ maps table holds.
    let site = site_of config maps (plan_of task) in
    let stores : Stores site (record { queue = queue; terms = terms_of config }) table = record {
      holds = holds;
      whole = whole;
      dirs = dirs;
      terms = refl;
      groups = each_is_there (terms_of config) (all_dirs (terms_of config)) refl;
    } in
    made site table (sym named) refl refl (subst (λ (k : Kept). Stores site k table) (sym is) stores)
begun_over config queue kept host task c d (Err e) named is whole dirs made = tt

-- and over that queue
pub queue_over : (queue : Queue) (kept : Kept) (terms : Terms) (r : Result Core NoMemory) → kept ≡ record { queue = queue; terms = terms } → IfOk r (λ core. table_of core ≡ kept)
    → IfOk r (λ core. (table_of core).queue ≡ queue)
queue_over queue kept terms (Ok core) is made = ap (λ (k : Kept). k.queue) (made ∙ is)
queue_over queue kept terms (Err e) is made = tt

-- so it has what the files say, and its runners may go on
pub able_over : (queue : Queue) (core : Core) (s : Spooled) → (table_of core).queue ≡ queue → IsAtRest (queue_seen queue) s → AreManned core → (spawner : Spawned) → MayGoOn core s spawner
able_over queue core s is rest manned spawner = record {
  tallied = λ whole. subst (λ (q : Queue). IsAtRest (queue_seen q) s) (sym is) rest;
  manned = manned spawner;
}

-- ---- a core as a task asks

-- one that serves sessions reads no clock
pub begun_serving : (task : Task) (config : Config) (wait : Option ℕ) (host : List ℕ) (kept : Kept) (clock : ClockSeen) (r : Result Core NoMemory) → plan_of task ≡ Serve wait
    → IfOk r (λ core. (site : Site) (table : Table) → site.host ≡ host → site.config ≡ config → site.plan ≡ Serve wait → Stores site kept table → Begins site core table None)
    → IfOk r (λ core. (site : Site) (table : Table) → site.host ≡ host → site.config ≡ config → site.plan ≡ plan_of task → Stores site kept table → HasBegun site core table clock clock)
begun_serving task config wait host kept clock (Ok core) plan made = λ site table named under planned stores.
    record { first = None; told = gains_none clock.told; readings = omega arith; begins = made site table named under (planned ∙ plan) stores }
begun_serving task config wait host kept clock (Err e) plan made = tt

-- one of a run over the queue reads it once
pub begun_once : (task : Task) (config : Config) (group : Option (List ℕ)) (host : List ℕ) (kept : Kept) (c d : ClockSeen) (reading : ℕ) (r : Result Core NoMemory) → plan_of task ≡ Once group → Gains c.told d.told (reading ∷ []) → d.readings ≡ c.readings + 1
    → IfOk r (λ core. (site : Site) (table : Table) → site.host ≡ host → site.config ≡ config → site.plan ≡ Once group → Stores site kept table → Begins site core table (Some reading))
    → IfOk r (λ core. (site : Site) (table : Table) → site.host ≡ host → site.config ≡ config → site.plan ≡ plan_of task → Stores site kept table → HasBegun site core table c d)
begun_once task config group host kept c d reading (Ok core) plan told counted made = λ site table named under planned stores.
    record { first = Some reading; told = told; readings = counted; begins = made site table named under (planned ∙ plan) stores }
begun_once task config group host kept c d reading (Err e) plan told counted made = tt

-- its runners may take steps
pub manned_so : (config : Config) (plan : Plan) (r : Result Core NoMemory) → IfOk r (λ core. (site : Site) (spawner : Spawned) → site.config ≡ config → site.plan ≡ plan → IsManned (table_of core) spawner core.crew) → IfOk r AreManned
manned_so config plan (Ok core) manned = λ spawner. manned (site_of config no_maps plan) spawner refl refl
manned_so config plan (Err e) manned = tt

pub read_once : (plan : Plan) (group : Option (List ℕ)) (c d : ClockSeen) (reading : ℕ) → plan ≡ Once group → Gains c.told d.told (reading ∷ []) → d.readings ≡ c.readings + 1 → IsReadFor plan c d
read_once plan group c d reading is told counted = subst (λ (p : Plan). IsReadFor p c d) (sym is) (inr (record { reading = reading; told = told; readings = counted }))

-- so there is one reading at most
pub few_read : (plan : Plan) (c d : ClockSeen) → IsReadFor plan c d → d.readings ≤ c.readings + 1
few_read (Serve wait) c d same = let e = ap (λ (k : ClockSeen). k.readings) same in omega (arith, e)
few_read (Once group) c d (inl same) = let e = ap (λ (k : ClockSeen). k.readings) same in omega (arith, e)
few_read (Once group) c d (inr once) = omega (arith, once.readings)
