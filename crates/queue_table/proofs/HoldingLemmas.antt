-- The entries of a table and those that a store holds, and a store but for its room.
use Rattle.std.proofs.Common.{◌≡◌, ⊎_elim, ℕ, List, [], ◌∷◌, map, Option, Some, None, false, refl, sym, ◌∙◌, ap, subst, arith, Contains}
use Rattle.std.specs.Prelude.{IfSome}
use Rattle.std.specs.List.{AllZip}
use Rattle.std.specs.List.Sorted.{IsStrictlySortedBy}
use Rattle.std.specs.Ordering.{nat_cmp}
use Rattle.spool_disk.specs.Disk.{FileMap}
use Rattle.spool_store.specs.Entries.{Stored, Table, ids}
use Rattle.spool_store.specs.Stores.{Agrees, Holds, IsHeld, StoreSeen}
use Rattle.spool_store.specs.declared.held.Held.{Held}
use Rattle.queue_table.specs.Calls.{IsHeldIn, IsStoredIn}
use Rattle.queue_table.specs.Commands.{control_at}
use Rattle.spool_store.proofs.Standing.{contains_cases, contains_head, contains_tail}
use Rattle.queue_table.proofs.EntryLemmas.{found}

later_held : (h : Held) (hs : List Held) (s : Stored) → IsHeldIn hs s → IsHeldIn (h ∷ hs) s
later_held h hs s k = record { one = k.one; among = contains_tail h k.one hs k.among; is = k.is }

later_stored : (t : Stored) (ss : List Stored) (h : Held) → IsStoredIn ss h → IsStoredIn (t ∷ ss) h
later_stored t ss h k = record { one = k.one; among = contains_tail t k.one ss k.among; is = k.is }

pub held_in : (hs : List Held) (ss : List Stored) (s : Stored) → AllZip IsHeld hs ss → Contains ss s → IsHeldIn hs s
held_in [] [] s z k = absurd (omega (arith, k.1))
held_in [] (t ∷ ss) s z k = absurd z
held_in (h ∷ hs) [] s z k = absurd z
held_in (h ∷ hs) (t ∷ ss) s z k = ⊎_elim
    (λ (e : t ≡ s). record { one = h; among = contains_head h hs; is = subst (IsHeld h) e z.0 })
    (λ (m : Contains ss s). later_held h hs s (held_in hs ss s z.1 m))
    (contains_cases t s ss k)

pub stored_in : (hs : List Held) (ss : List Stored) (h : Held) → AllZip IsHeld hs ss → Contains hs h → IsStoredIn ss h
stored_in [] [] h z k = absurd (omega (arith, k.1))
stored_in [] (t ∷ ss) h z k = absurd z
stored_in (x ∷ hs) [] h z k = absurd z
stored_in (x ∷ hs) (t ∷ ss) h z k = ⊎_elim
    (λ (e : x ≡ h). record { one = t; among = contains_head t ss; is = subst (λ (q : Held). IsHeld q t) e z.0 })
    (λ (m : Contains hs h). later_stored t ss h (stored_in hs ss h z.1 m))
    (contains_cases x h hs k)

pub ids_same : (hs : List Held) (ss : List Stored) → AllZip IsHeld hs ss → map (λ (h : Held). h.entry.id) hs ≡ ids ss
ids_same [] [] z = refl
ids_same [] (t ∷ ss) z = absurd z
ids_same (h ∷ hs) [] z = absurd z
ids_same (h ∷ hs) (t ∷ ss) z = λ i. z.0.id i ∷ ids_same hs ss z.1 i

-- the control of an entry that is held is found in the table
pub held_found : (hs : List Held) (ss : List Stored) (h : Held) (id : ℕ) → IsStrictlySortedBy nat_cmp (map (λ (h : Held). h.entry.id) hs) → AllZip IsHeld hs ss → Contains hs h → h.entry.id ≡ id → control_at id ss ≡ Some h.entry.control
held_found hs ss h id up z k is =
    let s = stored_in hs ss h z k in
    found id ss s.one (subst (IsStrictlySortedBy nat_cmp) (ids_same hs ss z) up) s.among (sym s.is.id ∙ is) ∙ ap (λ c. Some c) (sym s.is.control)

-- of its room nothing is said
pub holds_same : (old new : StoreSeen) (table : Table) → new ≡ record old { room = new.room } → Holds old table → Holds new table
holds_same old new table same h = subst (λ (q : StoreSeen). Holds q table) (sym same) (record { entries = h.entries; next = h.next })

agrees_same : (old new : StoreSeen) (f : FileMap) → new ≡ record old { room = new.room } → Agrees old f → Agrees new f
agrees_same old new f same a = subst (λ (q : StoreSeen). Agrees q f) (sym same) (record { each = a.each; all = a.all; strange = a.strange; tidy = a.tidy })

told_same : (old new : StoreSeen) (told : Option FileMap) → new ≡ record old { room = new.room } → IfSome told (Agrees old) → IfSome told (Agrees new)
told_same old new None same h = tt
told_same old new (Some f) same h = agrees_same old new f same h

pub tallies_same : (old new : StoreSeen) (told : Option FileMap) → new ≡ record old { room = new.room } → (old.broken ≡ false → IfSome told (Agrees old)) → new.broken ≡ false → IfSome told (Agrees new)
tallies_same old new told same h whole = told_same old new told same (h (sym (ap (λ (q : StoreSeen). q.broken) same) ∙ whole))
