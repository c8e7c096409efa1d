-- What a store holds goes on with the table.
use Rattle.std.proofs.Common.{◌≡◌, ℕ, ◌+◌, ◌-◌, List, [], ◌∷◌, ◌++◌, map, None, Bool, true, false, if◌then◌else◌, ap, arith, refl, subst}
use Rattle.std.specs.Prelude.{eqb}
use Rattle.std.specs.List.{AllZip}
use Rattle.mail_base.specs.declared.control.Control.{Control}
use Rattle.mail_base.specs.declared.control.Draft.{Draft}
use Rattle.spool_disk.specs.Disk.{FileMap}
use Rattle.spool_store.specs.Entries.{Stored, Table, replaced}
use Rattle.spool_store.specs.Keepers.{after_replace}
use Rattle.spool_store.specs.Parcels.{with_commit}
use Rattle.spool_store.specs.Stores.{Agrees, Holds, IsHeld, StoreSeen, entered, recontrolled, refinished}
use Rattle.spool_store.specs.Writes.{after_commit, stored}
use Rattle.spool_store.specs.declared.held.Held.{Held}

zip_both : (f : Held → Held) (k : Stored → Stored) → ((h : Held) (s : Stored) → IsHeld h s → IsHeld (f h) (k s)) → (hs : List Held) (ss : List Stored) → AllZip IsHeld hs ss → AllZip IsHeld (map f hs) (map k ss)
zip_both f k both [] [] z = tt
zip_both f k both [] (s ∷ ss) z = absurd z
zip_both f k both (h ∷ hs) [] z = absurd z
zip_both f k both (h ∷ hs) (s ∷ ss) z = (both h s z.0, zip_both f k both hs ss z.1)

changed_both : (b : Bool) (c : Control) (h : Held) (s : Stored) → IsHeld h s → IsHeld (if b then record h { entry = record h.entry { control = c } } else h) (if b then record { id = s.id; dir = s.dir; control = c; body = s.body } else s)
changed_both true c h s is = record { id = is.id; dir = is.dir; control = refl }
changed_both false c h s is = is

replaced_both : (id : ℕ) (c : Control) (h : Held) (s : Stored) → IsHeld h s → IsHeld (recontrolled id c h) (replaced id c s)
replaced_both id c h s is = subst (λ (b : Bool). IsHeld (recontrolled id c h) (if b then record { id = s.id; dir = s.dir; control = c; body = s.body } else s)) (ap (λ (n : ℕ). eqb n id) is.id) (changed_both (eqb h.entry.id id) c h s is)

-- a store that holds a table holds the table with a replaced control once it has done it too
pub replace_holds : (store : StoreSeen) (table : Table) (id : ℕ) (c : Control) → Holds store table → Holds (record store { entries = map (recontrolled id c) store.entries }) (after_replace table id c)
replace_holds store table id c holds = record { entries = zip_both (recontrolled id c) (replaced id c) (replaced_both id c) store.entries table.entries holds.entries; next = holds.next }

finished_one : (b : Bool) (h : Held) (s : Stored) → IsHeld h s → IsHeld (if b then record h { finished = true } else h) s
finished_one true h s is = record { id = is.id; dir = is.dir; control = is.control }
finished_one false h s is = is

zip_one : (f : Held → Held) → ((h : Held) (s : Stored) → IsHeld h s → IsHeld (f h) s) → (hs : List Held) (ss : List Stored) → AllZip IsHeld hs ss → AllZip IsHeld (map f hs) ss
zip_one f one [] [] z = tt
zip_one f one [] (s ∷ ss) z = absurd z
zip_one f one (h ∷ hs) [] z = absurd z
zip_one f one (h ∷ hs) (s ∷ ss) z = (one h s z.0, zip_one f one hs ss z.1)

-- a store that holds a table holds it after a finish
pub finish_holds : (store : StoreSeen) (table : Table) (id : ℕ) → Holds store table → Holds (record store { entries = map (refinished id) store.entries }) table
finish_holds store table id holds = record { entries = zip_one (refinished id) (λ h s is. finished_one (eqb h.entry.id id) h s is) store.entries table.entries holds.entries; next = holds.next }

-- of its room nothing is said
pub room_holds : (store : StoreSeen) (table : Table) (room : ℕ) → Holds store table → Holds (record store { room = room }) table
room_holds store table room holds = record { entries = holds.entries; next = holds.next }

-- a store that agrees with a map agrees with it under any room
pub room_agrees : (store : StoreSeen) (f : FileMap) (room : ℕ) → Agrees store f → Agrees (record store { room = room }) f
room_agrees store f room a = record { each = a.each; all = a.all; strange = a.strange; tidy = a.tidy }

-- a commit of one entry
pub one_after : (table : Table) (d : Draft) (b : List ℕ) → after_commit table [] d b None ≡ record { entries = table.entries ++ stored table.next b d ∷ []; next = table.next + 1 }
one_after table d b = let n : table.next + 1 + 0 ≡ table.next + 1 = omega arith in λ i. record { entries = table.entries ++ stored table.next b d ∷ []; next = n i }

-- a commit of a parent alone adds one entry and takes one id and one room
pub one_with : (store : StoreSeen) (d : Draft) → with_commit store [] d ≡ record store { entries = store.entries ++ entered (stored store.next [] d) ∷ []; next = store.next + 1; room = store.room - 1 }
one_with store d =
    let n : store.next + 1 + 0 ≡ store.next + 1 = omega arith in
    let m : store.room - (0 + 1) ≡ store.room - 1 = omega arith in
    λ i. record store { entries = store.entries ++ entered (stored store.next [] d) ∷ []; next = n i; room = m i }
