-- Maps that are alike stand for the same tables, and a map for one table.
use Rattle.std.proofs.Common.{◌≡◌, ◌≢◌, ◌⊎◌, inl, inr, ⊎_elim, ℕ, zero, suc, ◌<◌, ◌≤◌, List, [], ◌∷◌, length, Some, Bool, true, false, true≢false, refl, sym, ◌∙◌, ap, subst, arith, Contains, Less}
use Rattle.std.specs.Prelude.{All, bytes_eq}
use Rattle.std.specs.List.{AllByRecursion, slice_index_or}
use Rattle.std.specs.List.Sorted.{IsStrictlySortedBy}
use Rattle.std.specs.Ordering.{nat_cmp}
use Rattle.std.specs.Cmp.Lexicographic.{bytes_decides}
use Rattle.std.proofs.lemmas.Cmp.{ranked}
use Rattle.std.proofs.lemmas.List.Elements.{All-contains, All-cons, All-nil}
use Rattle.mail_base.specs.declared.id.Kind.{Kind}
use Rattle.mail_base.specs.declared.id.Kind.TheVariants.{Df, Qf, Tf, Sf}
use Rattle.mail_base.specs.Names.{name_of}
use Rattle.spool_disk.specs.Disk.{FileMap, bytes_at}
use Rattle.mail_base.specs.declared.control.Control.{Control}
use Rattle.mail_base.specs.States.{NeedsBody}
use Rattle.spool_store.specs.Queue.{Spot, IsControl, IsRead, twice, IsLive, HasTwin}
use Rattle.spool_store.specs.Entries.{Stored, Table, ids, IsSameEntry, AreSameEntries}
use Rattle.spool_store.specs.Settled.{spot_of, HasFiles, StandsFor}
use Rattle.spool_store.proofs.Reading.{one_control}
use Rattle.spool_store.proofs.Carrying.{live_read, live_plain}

-- a test is true or false
pub decided : (b : Bool) → (b ≡ true) ⊎ (b ≡ false)
decided true = inl refl
decided false = inr refl

-- directories are equal or not
pub same_dir : (d e : List ℕ) → (d ≡ e) ⊎ (d ≢ e)
same_dir d e = ⊎_elim (λ (t : bytes_eq d e ≡ true). inl ((bytes_decides d e).0 t)) (λ (f : bytes_eq d e ≡ false). inr (λ q. true≢false (sym ((bytes_decides d e).1 q) ∙ f))) (decided (bytes_eq d e))

-- kinds of files are equal or not
pub kind_or : (k j : Kind) → (k ≡ j) ⊎ (k ≢ j)
kind_or Df Df = inl refl
kind_or Df Qf = inr (λ e. cc e)
kind_or Df Tf = inr (λ e. cc e)
kind_or Df Sf = inr (λ e. cc e)
kind_or Qf Df = inr (λ e. cc e)
kind_or Qf Qf = inl refl
kind_or Qf Tf = inr (λ e. cc e)
kind_or Qf Sf = inr (λ e. cc e)
kind_or Tf Df = inr (λ e. cc e)
kind_or Tf Qf = inr (λ e. cc e)
kind_or Tf Tf = inl refl
kind_or Tf Sf = inr (λ e. cc e)
kind_or Sf Df = inr (λ e. cc e)
kind_or Sf Qf = inr (λ e. cc e)
kind_or Sf Tf = inr (λ e. cc e)
kind_or Sf Sf = inl refl

-- two control files of one id: they are the same, or the first has a twin
pub same_or_twin : (dirs : List (List ℕ)) (f : FileMap) (s t : Spot) (b : List ℕ) → IsControl dirs f t b → t.id ≡ s.id → (t ≡ s) ⊎ HasTwin dirs f s
same_or_twin dirs f s t b there e = ⊎_elim
    (λ (d : t.dir ≡ s.dir). ⊎_elim
    (λ (k : t.kind ≡ s.kind). inl (λ j. record { dir = d j; kind = k j; id = e j }))
    (λ (k : t.kind ≢ s.kind). inr (record { other = t; bytes = b; there = there; id = e; apart = λ q. k (ap (λ (r : Spot). r.kind) q) }))
    (kind_or t.kind s.kind))
    (λ (d : t.dir ≢ s.dir). inr (record { other = t; bytes = b; there = there; id = e; apart = λ q. d (ap (λ (r : Spot). r.dir) q) }))
    (same_dir t.dir s.dir)

-- of an id one control file at most is live, and where one is live there is no other
pub one_spot : (dirs : List (List ℕ)) (f : FileMap) (s t : Spot) (c : Control) (b : List ℕ) → IsLive dirs f s c → IsControl dirs f t b → t.id ≡ s.id → t ≡ s
one_spot dirs f s t c b live there e = ⊎_elim (λ (q : t ≡ s). q)
    (λ (twin : HasTwin dirs f s). absurd (live_plain live (twice s (live_read live).bytes (live_read live).there twin)))
    (same_or_twin dirs f s t b there e)

-- an id has one live control file, which says one control
pub one_live : (dirs : List (List ℕ)) (f : FileMap) (s t : Spot) (c d : Control) → IsLive dirs f s c → IsLive dirs f t d → t.id ≡ s.id → (t ≡ s) × (c ≡ d)
one_live dirs f s t c d live other e =
    let q : t ≡ s = one_spot dirs f s t c (live_read other).bytes live (live_read other).there e in
    (q, one_control dirs f s c d (live_read live) (subst (λ (r : Spot). IsRead dirs f r d) q (live_read other)))

-- lists in order of id
pub contains_head : {X : Type 0} (x : X) (xs : List X) → Contains (x ∷ xs) x
contains_head x xs = (zero, omega arith, refl)

-- what a list has, the list with one more before it has
pub contains_tail : {X : Type 0} (x y : X) (xs : List X) → Contains xs y → Contains (x ∷ xs) y
contains_tail x y xs h = (suc h.0, omega (arith, h.1), h.2)

contains_at : {X : Type 0} (x y : X) (xs : List X) (k : ℕ) → k < length (x ∷ xs) → slice_index_or (x ∷ xs) k y ≡ y → (x ≡ y) ⊎ Contains xs y
contains_at x y xs zero lt e = inl e
contains_at x y xs (suc k) lt e = inr (k, omega (arith, lt), e)

-- what a list has is its first or in the rest
pub contains_cases : {X : Type 0} (x y : X) (xs : List X) → Contains (x ∷ xs) y → (x ≡ y) ⊎ Contains xs y
contains_cases x y xs h = contains_at x y xs h.0 h.1 h.2

above_head : (n : ℕ) (xs : List Stored) → AllByRecursion (λ y. nat_cmp n y ≡ Less) (ids xs) → All (λ s. n < s.id) xs
above_head n [] h = All-nil (λ (s : Stored). n < s.id)
above_head n (x ∷ xs) h = All-cons (λ (s : Stored). n < s.id) x xs (ranked n x.id Less (sym h.0)) (above_head n xs h.1)

-- the first of entries in order of id has the least id
pub sorted_head : (x s : Stored) (xs : List Stored) → IsStrictlySortedBy nat_cmp (ids (x ∷ xs)) → Contains xs s → x.id < s.id
unfolding IsStrictlySortedBy
sorted_head x s xs h k = All-contains (λ (q : Stored). x.id < q.id) xs s (above_head x.id xs h.0) k

-- without the first, entries in order of id are in order
pub sorted_tail : (x : Stored) (xs : List Stored) → IsStrictlySortedBy nat_cmp (ids (x ∷ xs)) → IsStrictlySortedBy nat_cmp (ids xs)
unfolding IsStrictlySortedBy
sorted_tail x xs h = h.1

-- each entry of one list is in the other
abbrev AreIn : List Stored → List Stored → Type 0
AreIn xs ys = (s : Stored) → Contains xs s → (r : Stored) × Contains ys r × IsSameEntry s r

-- the tails of lists whose heads have one id
tails_in : (x y : Stored) (xs ys : List Stored) → IsStrictlySortedBy nat_cmp (ids (x ∷ xs)) → x.id ≡ y.id → AreIn (x ∷ xs) (y ∷ ys) → AreIn xs ys
tails_in x y xs ys sorted e h s k =
    let m = h s (contains_tail x s xs k) in
    ⊎_elim
    (λ (q : y ≡ m.0). absurd (omega (arith, sorted_head x s xs sorted k, e, ap (λ (r : Stored). r.id) q, m.2.id)))
    (λ (q : Contains ys m.0). (m.0, q, m.2))
    (contains_cases y m.0 ys m.1)

head_least : (x y : Stored) (xs ys : List Stored) → IsStrictlySortedBy nat_cmp (ids (y ∷ ys)) → AreIn (x ∷ xs) (y ∷ ys) → y.id ≤ x.id
head_least x y xs ys sorted h =
    let m = h x (contains_head x xs) in
    ⊎_elim
    (λ (q : y ≡ m.0). omega (arith, ap (λ (r : Stored). r.id) q, m.2.id))
    (λ (q : Contains ys m.0). omega (arith, sorted_head y m.0 ys sorted q, m.2.id))
    (contains_cases y m.0 ys m.1)

heads_same : (x y : Stored) (xs ys : List Stored) → IsStrictlySortedBy nat_cmp (ids (y ∷ ys)) → x.id ≡ y.id → AreIn (x ∷ xs) (y ∷ ys) → IsSameEntry x y
heads_same x y xs ys sorted e h =
    let m = h x (contains_head x xs) in
    ⊎_elim
    (λ (q : y ≡ m.0). subst (IsSameEntry x) (sym q) m.2)
    (λ (q : Contains ys m.0). absurd (omega (arith, sorted_head y m.0 ys sorted q, m.2.id, e)))
    (contains_cases y m.0 ys m.1)

same_lists : (xs ys : List Stored) → IsStrictlySortedBy nat_cmp (ids xs) → IsStrictlySortedBy nat_cmp (ids ys) → AreIn xs ys → AreIn ys xs → AreSameEntries xs ys
same_lists [] [] p q h k = tt
same_lists [] (y ∷ ys) p q h k = let m = k y (contains_head y ys) in absurd (omega (arith, m.1.1))
same_lists (x ∷ xs) [] p q h k = let m = h x (contains_head x xs) in absurd (omega (arith, m.1.1))
same_lists (x ∷ xs) (y ∷ ys) p q h k =
    let e : x.id ≡ y.id = omega (arith, head_least x y xs ys q h, head_least y x ys xs p k) in
    (heads_same x y xs ys q e h, same_lists xs ys (sorted_tail x xs p) (sorted_tail y ys q) (tails_in x y xs ys p e h) (tails_in y x ys xs q (sym e) k))

table_in : (dirs : List (List ℕ)) (t u : Table) (f : FileMap) → StandsFor dirs t f → StandsFor dirs u f → AreIn t.entries u.entries
table_in dirs t u f a b s k =
    let has = All-contains (HasFiles dirs f) t.entries s a.each k in
    let read = b.all (spot_of has.kind s) s.control has.live in
    let r = read.stored in
    let its = All-contains (HasFiles dirs f) u.entries r b.each read.among in (
      r,
      read.among,
      record {
        id = sym read.id;
        dir = sym read.dir;
        control = sym read.control;
        body = λ needs.
            let one : Some s.body ≡ Some r.body = sym (has.body needs) ∙ ap (λ (d : List ℕ). bytes_at f (d, name_of Df s.id)) (sym read.dir) ∙ ap (λ (i : ℕ). bytes_at f (r.dir, name_of Df i)) (sym read.id) ∙ its.body (subst NeedsBody (sym read.control) needs) in cc;
      },
    )

-- a map stands for one table
pub one_table : (dirs : List (List ℕ)) (t u : Table) (f : FileMap) → StandsFor dirs t f → StandsFor dirs u f → AreSameEntries t.entries u.entries
one_table dirs t u f a b = same_lists t.entries u.entries a.ascending b.ascending (table_in dirs t u f a b) (table_in dirs u t f b a)
