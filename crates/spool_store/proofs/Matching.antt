-- A store that an opening gives holds the table that the map stood for.
use Rattle.std.proofs.Common.{◌≡◌, ⊎_elim, Less, ℕ, suc, ◌<◌, ◌≤◌, List, [], ◌∷◌, map, arith, refl, sym, ap, subst, Contains}
use Rattle.std.specs.Prelude.{All}
use Rattle.std.specs.Cmp.{nat_cmp_is}
use Rattle.std.specs.List.{AllByRecursion, AllZip}
use Rattle.std.specs.List.Sorted.{IsStrictlySortedBy}
use Rattle.std.specs.Ordering.{nat_cmp}
use Rattle.std.proofs.lemmas.List.Elements.{All-contains, All-contains_itself, All-head, All-map, All-tail, All-weaker}
use Rattle.mail_base.specs.declared.control.Entry.{Entry}
use Rattle.mail_base.specs.declared.id.Kind.{Kind}
use Rattle.spool_disk.specs.Disk.{FileMap}
use Rattle.spool_store.specs.Entries.{Stored, Table, ids}
use Rattle.spool_store.specs.Openings.{AreAscending, AreEntries}
use Rattle.spool_store.specs.Queue.{IsLive}
use Rattle.spool_store.specs.Settled.{HasFiles, StandsFor, spot_of}
use Rattle.spool_store.specs.Stores.{Holds, IsHeld}
use Rattle.spool_store.specs.Verdicts.{AreLive}
use Rattle.spool_store.specs.declared.opened.Opened.{Opened}
use Rattle.spool_store.specs.inner.Opening.{opened_store, taken_over}
use Rattle.spool_store.proofs.Replacing.{contains_map}
use Rattle.spool_store.proofs.Standing.{contains_cases, contains_head, contains_tail, sorted_head, sorted_tail}
use Rattle.spool_store.proofs.Verdicts.{live_stands}

-- ---- ascending entries

pairs_head : (e q : Entry) (es : List Entry) → AreAscending (e ∷ es) → Contains es q → e.id < q.id
pairs_head e q es up k =
    let less = up 0 (suc k.0) q (omega arith) (omega (arith, k.1)) in
    omega (arith, less, ap (λ (r : Entry). r.id) k.2)

pairs_tail : (e : Entry) (es : List Entry) → AreAscending (e ∷ es) → AreAscending es
pairs_tail e es up i j d lt within = up (suc i) (suc j) d (omega (arith, lt)) (omega (arith, within))

-- ---- two lists in order, of which each has the other's

abbrev EachIs : List Entry → List Stored → Type 0
EachIs es ss = (e : Entry) → Contains es e → (s : Stored) × Contains ss s × IsHeld (taken_over e) s

abbrev EachWas : List Stored → List Entry → Type 0
EachWas ss es = (s : Stored) → Contains ss s → (e : Entry) × Contains es e × IsHeld (taken_over e) s

least_stored : (e : Entry) (s : Stored) (es : List Entry) (ss : List Stored) → IsStrictlySortedBy nat_cmp (ids (s ∷ ss)) → EachIs (e ∷ es) (s ∷ ss) → s.id ≤ e.id
least_stored e s es ss sorted h =
    let m = h e (contains_head e es) in
    ⊎_elim
    (λ (q : s ≡ m.0). omega (arith, ap (λ (r : Stored). r.id) q, m.2.id))
    (λ (q : Contains ss m.0). omega (arith, sorted_head s m.0 ss sorted q, m.2.id))
    (contains_cases s m.0 ss m.1)

least_entry : (e : Entry) (s : Stored) (es : List Entry) (ss : List Stored) → AreAscending (e ∷ es) → EachWas (s ∷ ss) (e ∷ es) → e.id ≤ s.id
least_entry e s es ss up h =
    let m = h s (contains_head s ss) in
    ⊎_elim
    (λ (q : e ≡ m.0). omega (arith, ap (λ (r : Entry). r.id) q, m.2.id))
    (λ (q : Contains es m.0). omega (arith, pairs_head e m.0 es up q, m.2.id))
    (contains_cases e m.0 es m.1)

heads_held : (e : Entry) (s : Stored) (es : List Entry) (ss : List Stored) → IsStrictlySortedBy nat_cmp (ids (s ∷ ss)) → e.id ≡ s.id → EachIs (e ∷ es) (s ∷ ss) → IsHeld (taken_over e) s
heads_held e s es ss sorted same h =
    let m = h e (contains_head e es) in
    ⊎_elim
    (λ (q : s ≡ m.0). subst (IsHeld (taken_over e)) (sym q) m.2)
    (λ (q : Contains ss m.0). absurd (omega (arith, sorted_head s m.0 ss sorted q, m.2.id, same)))
    (contains_cases s m.0 ss m.1)

tails_are : (e : Entry) (s : Stored) (es : List Entry) (ss : List Stored) → AreAscending (e ∷ es) → e.id ≡ s.id → EachIs (e ∷ es) (s ∷ ss) → EachIs es ss
tails_are e s es ss up same h q k =
    let m = h q (contains_tail e q es k) in
    ⊎_elim
    (λ (is : s ≡ m.0). absurd (omega (arith, pairs_head e q es up k, same, ap (λ (r : Stored). r.id) is, m.2.id)))
    (λ (is : Contains ss m.0). (m.0, is, m.2))
    (contains_cases s m.0 ss m.1)

tails_were : (e : Entry) (s : Stored) (es : List Entry) (ss : List Stored) → IsStrictlySortedBy nat_cmp (ids (s ∷ ss)) → e.id ≡ s.id → EachWas (s ∷ ss) (e ∷ es) → EachWas ss es
tails_were e s es ss sorted same h t k =
    let m = h t (contains_tail s t ss k) in
    ⊎_elim
    (λ (is : e ≡ m.0). absurd (omega (arith, sorted_head s t ss sorted k, same, ap (λ (r : Entry). r.id) is, m.2.id)))
    (λ (is : Contains es m.0). (m.0, is, m.2))
    (contains_cases e m.0 es m.1)

zip_held : (es : List Entry) (ss : List Stored) → AreAscending es → IsStrictlySortedBy nat_cmp (ids ss) → EachIs es ss → EachWas ss es → AllZip IsHeld (map taken_over es) ss
zip_held [] [] up sorted is was = tt
zip_held [] (s ∷ ss) up sorted is was = let m = was s (contains_head s ss) in absurd (omega (arith, m.1.1))
zip_held (e ∷ es) [] up sorted is was = let m = is e (contains_head e es) in absurd (omega (arith, m.1.1))
zip_held (e ∷ es) (s ∷ ss) up sorted is was =
    let same : e.id ≡ s.id = omega (arith, least_stored e s es ss sorted is, least_entry e s es ss up was) in
    (heads_held e s es ss sorted same is, zip_held es ss (pairs_tail e es up) (sorted_tail s ss sorted) (tails_are e s es ss up same is) (tails_were e s es ss sorted same was))

-- ---- what an opening tells of a map that stands for a table

each_is : (dirs : List (List ℕ)) (f : FileMap) (es : List Entry) (table : Table) → AreEntries dirs f es → StandsFor dirs table f → EachIs es table.entries
each_is dirs f es table read stands e k =
    let live = read.each e k in
    let r = stands.all (record { dir = e.dir; kind = live.0; id = e.id }) e.control live.1 in
    (r.stored, r.among, record { id = sym r.id; dir = sym r.dir; control = sym r.control })

each_was : (dirs : List (List ℕ)) (f : FileMap) (es : List Entry) (table : Table) → AreEntries dirs f es → StandsFor dirs table f → EachWas table.entries es
each_was dirs f es table read stands s k =
    let has = All-contains (HasFiles dirs f) table.entries s stands.each k in
    (record { id = s.id; dir = s.dir; control = s.control }, read.all (spot_of has.kind s) s.control has.live, record { id = refl; dir = refl; control = refl })

-- the store that an opening gives holds the table that the map stood for, with its own first free id
pub opened_holds : (dirs : List (List ℕ)) (f : FileMap) (o : Opened) (table : Table) → AreAscending o.entries → AreEntries dirs f o.entries → StandsFor dirs table f
    → Holds (opened_store dirs o) (record { entries = table.entries; next = o.next })
opened_holds dirs f o table up read stands = record {
  entries = zip_held o.entries table.entries up stands.ascending (each_is dirs f o.entries table read stands) (each_was dirs f o.entries table read stands);
  next = refl;
}

-- ---- a table that the map stands for

abbrev bare : Entry → Stored
bare e = record { id = e.id; dir = e.dir; control = e.control; body = [] }

less_bare : (n : ℕ) (es : List Entry) → All (λ (e : Entry). n < e.id) es → AllByRecursion (λ y. nat_cmp n y ≡ Less) (ids (map bare es))
less_bare n [] h = tt
less_bare n (e ∷ es) h = (sym (nat_cmp_is n e.id Less (All-head (λ (q : Entry). n < q.id) e es h)), less_bare n es (All-tail (λ (q : Entry). n < q.id) e es h))

bare_ascends : (es : List Entry) → AreAscending es → IsStrictlySortedBy nat_cmp (ids (map bare es))
unfolding IsStrictlySortedBy
bare_ascends [] up = tt
bare_ascends (e ∷ es) up = (less_bare e.id es (λ k d lt. let less = up 0 (suc k) d (omega arith) (omega (arith, lt)) in omega (arith, less)), bare_ascends es (pairs_tail e es up))

bare_live : (dirs : List (List ℕ)) (f : FileMap) (es : List Entry) → AreAscending es → AreEntries dirs f es → AreLive dirs f (map bare es)
bare_live dirs f es up read = record {
  ascending = bare_ascends es up;
  each = All-map (λ (s : Stored). (kind : Kind) × IsLive dirs f (spot_of kind s) s.control) bare es
      (All-weaker (Contains es) (λ (e : Entry). (kind : Kind) × IsLive dirs f (spot_of kind (bare e)) e.control) (λ e k. read.each e k) es (All-contains_itself es));
  all = λ s c live.
      let e : Entry = record { id = s.id; dir = s.dir; control = c } in
      record { stored = bare e; among = contains_map bare e es (read.all s c live); id = refl; dir = refl; control = refl };
}

-- the map stands for a table that the store holds
pub opened_table : (dirs : List (List ℕ)) (f : FileMap) (o : Opened) → AreAscending o.entries → AreEntries dirs f o.entries → (table : Table) × StandsFor dirs table f × Holds (opened_store dirs o) table
opened_table dirs f o up read =
    let s = live_stands dirs f (map bare o.entries) o.next (bare_live dirs f o.entries up read) in
    let table : Table = record { entries = s.0; next = o.next } in
    (table, s.1, opened_holds dirs f o table up read s.1)
