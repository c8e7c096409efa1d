-- What the mode that lists the queue opens, and what it lists.
use Rattle.std.proofs.Common.{◌≡◌, ℕ, List, Option, Some, None, Result, Ok, Err, refl, sym, subst}
use Rattle.std.specs.Prelude.{IfOk, IfSome}
use Rattle.mail_base.specs.declared.fault.StoreFault.{StoreFault}
use Rattle.spool_disk.specs.Disk.{FileMap}
use Rattle.spool_disk.specs.Spooled.{Reads, Spooled}
use Rattle.spool_store.specs.Entries.{Table}
use Rattle.spool_store.specs.Keepers.{IsReading, seen as queue_seen}
use Rattle.spool_store.specs.Moves.{Moves}
use Rattle.spool_store.specs.Settled.{StandsFor}
use Rattle.spool_store.specs.Stores.{Holds, StoreSeen}
use Rattle.spool_store.specs.Tidying.{IsTidied}
use Rattle.spool_store.specs.declared.queue.Queue.{Queue}
use Rattle.spool_store.proofs.MovesLemmas.{moves_join, moves_read, told_after}
use Rattle.queue_table.specs.Calls.{HoldsTable, store}
use Rattle.queue_table.specs.declared.table.Table.{Table as Kept}
use Rattle.queue_table.specs.declared.terms.Terms.{Terms}
use Rattle.sendmail_run.specs.Listings.{IsListed, IsListing, ListsFiles}
use Rattle.sendmail_run.specs.Serving.{IsTakenOver, from_id}

-- ---- what is opened

-- an opening of these directories
pub opened : (want dirs : List (List ℕ)) (s t : Spooled) → dirs ≡ want
    → ((table : Table) → Moves s t (StandsFor dirs table) (StandsFor dirs table) (StandsFor dirs table))
    → ((f : FileMap) → s.told ≡ Some f → Moves s t (λ g. g ≡ f) (IsTidied dirs f) (IsTidied dirs f)) → IsTakenOver want s t
opened want dirs s t same stands tidied = subst (λ (d : List (List ℕ)). IsTakenOver d s t) same (record { stands = stands; tidied = tidied })

-- and then calls that only read
pub opened_and_read : (dirs : List (List ℕ)) (s t u : Spooled) → IsTakenOver dirs s t → Reads t u → IsTakenOver dirs s u
opened_and_read dirs s t u taken reads = record {
  stands = λ table. moves_join s t u (StandsFor dirs table) (StandsFor dirs table) (StandsFor dirs table) (StandsFor dirs table) (taken.stands table) (moves_read t u (StandsFor dirs table) reads);
  tidied = λ f told. moves_join s t u (λ g. g ≡ f) (IsTidied dirs f) (IsTidied dirs f) (IsTidied dirs f) (taken.tidied f told) (moves_read t u (IsTidied dirs f) reads);
}

-- ---- what is listed

-- the files that an opening left
abbrev Left : List (List ℕ) → Option FileMap → Table → Type 0
Left dirs told table = (g : FileMap) × (told ≡ Some g) × StandsFor dirs table g

renumbered : (dirs : List (List ℕ)) (n : ℕ) (table : Table) (g : FileMap) → StandsFor dirs table g → StandsFor dirs (from_id n table) g
renumbered dirs n table g stands = record { ascending = stands.ascending; each = stands.each; all = stands.all }

abbrev Listing : StoreSeen → Option FileMap → Result (List ℕ) StoreFault → Type 0
Listing s told r = (files : FileMap) (table : Table) → told ≡ Some files → StandsFor s.dirs table files → Holds s table → IfOk r (IsListing table.entries s.strange)

text_is : (dirs : List (List ℕ)) (f : FileMap) (told : Option FileMap) (s : StoreSeen) (text : List ℕ) → s.dirs ≡ dirs → IsReading dirs f s → ((table : Table) × StandsFor dirs table f × Holds s table)
    → ((table : Table) → StandsFor dirs table f → Holds s (from_id s.next table)) → ((table : Table) → StandsFor dirs table f → Left dirs told table) → Listing s told (Ok text) → ListsFiles dirs f text
text_is dirs f told s text own read some holds left is = record {
  some = some.0;
  stands = some.1;
  strays = s.strange;
  are = read.strange;
  each = λ table stands.
      let g = left table stands in
      is g.0 (from_id s.next table) g.1 (subst (λ (d : List (List ℕ)). StandsFor d (from_id s.next table) g.0) (sym own) (renumbered dirs s.next table g.0 g.2)) (holds table stands);
}

listed_in : (dirs : List (List ℕ)) (a b : Spooled) (s : StoreSeen) (told : Option FileMap) (text : List ℕ) → a.told ≡ told → s.dirs ≡ dirs → ((f : FileMap) → a.told ≡ Some f → IsReading dirs f s) → ((f : FileMap) → a.told ≡ Some f → (table : Table) × StandsFor dirs table f × Holds s table)
    → ((table : Table) (f : FileMap) → a.told ≡ Some f → StandsFor dirs table f → Holds s (from_id s.next table))
    → ((table : Table) → Moves a b (StandsFor dirs table) (StandsFor dirs table) (StandsFor dirs table)) → Listing s b.told (Ok text) → IfSome told (λ files. ListsFiles dirs files text)
listed_in dirs a b s None text e own read table holds stands is = tt
listed_in dirs a b s (Some f) text e own read table holds stands is =
    text_is dirs f b.told s text own (read f e) (table f e) (λ t. holds t f e) (λ t stood. told_after a.told b.told (StandsFor dirs t) (StandsFor dirs t) (stands t).now f e stood) is

-- the listing of a store that was opened is that of the files
listed_of : (want dirs : List (List ℕ)) (a b : Spooled) (s : StoreSeen) (r : Result (List ℕ) StoreFault) → dirs ≡ want → s.dirs ≡ dirs → ((f : FileMap) → a.told ≡ Some f → IsReading dirs f s) → ((f : FileMap) → a.told ≡ Some f → (table : Table) × StandsFor dirs table f × Holds s table)
    → ((table : Table) (f : FileMap) → a.told ≡ Some f → StandsFor dirs table f → Holds s (from_id s.next table))
    → ((table : Table) → Moves a b (StandsFor dirs table) (StandsFor dirs table) (StandsFor dirs table)) → Listing s b.told r → IfOk r (IsListed want a)
listed_of want dirs a b s (Err fault) same own read table holds stands is = tt
listed_of want dirs a b s (Ok text) same own read table holds stands is = subst (λ (d : List (List ℕ)). IsListed d a text) same (listed_in dirs a b s a.told text refl own read table holds stands is)

-- the same over the table of that store
pub listed_over : (want dirs : List (List ℕ)) (a b : Spooled) (queue : Queue) (terms : Terms) (kept : Kept) (r : Result (List ℕ) StoreFault) → kept ≡ record { queue = queue; terms = terms } → dirs ≡ want → (queue_seen queue).dirs ≡ dirs
    → ((f : FileMap) → a.told ≡ Some f → IsReading dirs f (queue_seen queue)) → ((f : FileMap) → a.told ≡ Some f → (table : Table) × StandsFor dirs table f × Holds (queue_seen queue) table)
    → ((table : Table) (f : FileMap) → a.told ≡ Some f → StandsFor dirs table f → Holds (queue_seen queue) (from_id (queue_seen queue).next table))
    → ((table : Table) → Moves a b (StandsFor dirs table) (StandsFor dirs table) (StandsFor dirs table))
    → ((files : FileMap) (table : Table) → b.told ≡ Some files → StandsFor (store kept).dirs table files → HoldsTable kept table → IfOk r (IsListing table.entries (store kept).strange)) → IfOk r (IsListed want a)
listed_over want dirs a b queue terms kept r over same own read table holds stands is =
    listed_of want dirs a b (queue_seen queue) r same own read table holds stands (subst (λ (k : Kept). Listing (store k) b.told r) over is)
