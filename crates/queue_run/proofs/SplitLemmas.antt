-- Rows that join batches, and the index of batches by where they go.
use Rattle.std.proofs.Common.{◌≡◌, ◌≢◌, ◌⊎◌, inl, inr, ⊎_elim, ℕ, zero, suc, ◌<◌, ◌≤◌, List, [], ◌∷◌, ◌++◌, length, get_or, set, Bool, true, false, Option, Some, None, Result, Ok, Err, OnOk, if◌then◌else◌, length-append, refl, sym, ◌∙◌, ap, subst, arith}
use Rattle.std.specs.Prelude.{bytes_eq, nat_lt, slice_get, ◌&&◌}
use Rattle.std.specs.Map.{lookup}
use Rattle.std.proofs.lemmas.Bool.{cond-true, cond-false, ltb-false, le-ltb, and_parts, and_from, and_right}
use Rattle.std.proofs.lemmas.Grind.{fold-append}
use Rattle.std.proofs.lemmas.Option.{same_Some, none-some, slice_get_within, get_or_from_slice_get}
use Rattle.std.specs.Cmp.Lexicographic.{bytes_decides}
use Rattle.indexmap.specs.IndexMap.{insert_entry}
use Rattle.mail_base.specs.declared.config.Config.{Config}
use Rattle.queue_run.specs.declared.batch.Batch.{Batch}
use Rattle.queue_run.specs.declared.batch.Routed.{Routed}
use Rattle.queue_run.specs.declared.course.Course.{Course}
use Rattle.queue_run.specs.Batches.{added, batches_of, begun, course_of, goes_by, has_room, joined, most_at, same, takes}
use Rattle.queue_run.specs.inner.Courses.{AreFull, IsIndexed, IsOpenAt, IsOpenBy, IsPlaceAt, IsPlaceFor, begun_index}

-- ---- a row more

pub batches_more : (config : Config) (rows : List Routed) (row : Routed) → batches_of config (rows ++ row ∷ []) ≡ joined config row (batches_of config rows)
batches_more config rows row = fold-append (λ batches r. joined config r batches) [] rows (row ∷ [])

no_zero : (k : ℕ) → zero ≢ suc k
no_zero k e = omega (arith, e)

pub joined_at : (config : Config) (row : Routed) (d : Batch) (batches : List Batch) (k : ℕ) (batch : Batch) → slice_get batches k ≡ Some batch → takes config row batch ≡ true
    → ((q : ℕ) (b : Batch) → q ≢ k → slice_get batches q ≡ Some b → takes config row b ≡ false)
    → joined config row batches ≡ set batches k (added row (get_or batches k d))
joined_at config row d [] k batch there room only = absurd (none-some batch there)
joined_at config row d (x ∷ xs) zero batch there room only =
    cond-true (takes config row x) (added row x ∷ xs) (x ∷ joined config row xs)
    (subst (λ q. takes config row q ≡ true) (sym (same_Some x batch there)) room)
joined_at config row d (x ∷ xs) (suc k) batch there room only =
    cond-false (takes config row x) (added row x ∷ xs) (x ∷ joined config row xs) (only zero x (no_zero k) refl)
    ∙ ap (λ (q : List Batch). x ∷ q) (joined_at config row d xs k batch there room (λ q b ne is. only (suc q) b (λ e. ne (omega (arith, e))) is))

pub joined_none : (config : Config) (row : Routed) (batches : List Batch)
    → ((q : ℕ) (b : Batch) → slice_get batches q ≡ Some b → takes config row b ≡ false)
    → joined config row batches ≡ batches ++ begun row ∷ []
joined_none config row [] only = refl
joined_none config row (x ∷ xs) only =
    cond-false (takes config row x) (added row x ∷ xs) (x ∷ joined config row xs) (only zero x refl)
    ∙ ap (λ (q : List Batch). x ∷ q) (joined_none config row xs (λ q b is. only (suc q) b is))

-- ---- items at places

set_there : {X : Type 0} (xs : List X) (k : ℕ) (x y : X) → slice_get xs k ≡ Some x → slice_get (set xs k y) k ≡ Some y
set_there [] k x y is = absurd (none-some x is)
set_there (a ∷ xs) zero x y is = refl
set_there (a ∷ xs) (suc k) x y is = set_there xs k x y is

set_other : {X : Type 0} (xs : List X) (k q : ℕ) (y : X) → q ≢ k → slice_get (set xs k y) q ≡ slice_get xs q
set_other [] k q y ne = refl
set_other (a ∷ xs) zero zero y ne = absurd (ne refl)
set_other (a ∷ xs) zero (suc q) y ne = refl
set_other (a ∷ xs) (suc k) zero y ne = refl
set_other (a ∷ xs) (suc k) (suc q) y ne = set_other xs k q y (λ e. ne (ap suc e))

nat_cases : (a b : ℕ) → (a ≡ b) ⊎ (a ≢ b)
nat_cases zero zero = inl refl
nat_cases zero (suc b) = inr (no_zero b)
nat_cases (suc a) zero = inr (λ e. omega (arith, e))
nat_cases (suc a) (suc b) = ⊎_elim (λ e. inl (ap suc e)) (λ ne. inr (λ e. ne (omega (arith, e)))) (nat_cases a b)

push_there : {X : Type 0} (xs : List X) (y : X) → slice_get (xs ++ y ∷ []) (length xs) ≡ Some y
push_there [] y = refl
push_there (x ∷ xs) y = push_there xs y

-- an item of a list with one more is that one, or was there
push_cases : {X : Type 0} (xs : List X) (y : X) (q : ℕ) (b : X) → slice_get (xs ++ y ∷ []) q ≡ Some b → ((q ≡ length xs) × (y ≡ b)) ⊎ (slice_get xs q ≡ Some b)
push_cases [] y zero b is = inl (refl, same_Some y b is)
push_cases [] y (suc q) b is = absurd (none-some b is)
push_cases (x ∷ xs) y zero b is = inr is
push_cases (x ∷ xs) y (suc q) b is = ⊎_elim (λ p. inl (ap suc p.0, p.1)) (λ p. inr p) (push_cases xs y q b is)

push_before : {X : Type 0} (xs : List X) (y : X) (q : ℕ) (b : X) → slice_get xs q ≡ Some b → slice_get (xs ++ y ∷ []) q ≡ Some b
push_before [] y q b is = absurd (none-some b is)
push_before (x ∷ xs) y zero b is = is
push_before (x ∷ xs) y (suc q) b is = push_before xs y q b is

-- ---- room

fuller : (g l m : Bool) → (l ≡ false → m ≡ false) → (g && l) ≡ false → (g && m) ≡ false
fuller true l m more h = more h
fuller false l m more h = refl

longer : (xs : List ℕ) (x m : ℕ) → m ≤ length xs → m ≤ length (xs ++ x ∷ [])
longer xs x m le = let e = length-append xs (x ∷ []) in omega (arith, le, e)

-- a batch that has no room has none with a row more
added_full : (config : Config) (way : Option Course) (row : Routed) (b : Batch) → has_room config way b ≡ false → has_room config way (added row b) ≡ false
added_full config None row b h = refl
added_full config (Some course) row b h =
    fuller (goes_by course (course_of b.resolved)) (nat_lt (length b.places) (most_at config course)) (nat_lt (length (b.places ++ row.place ∷ [])) (most_at config course))
    (λ full. le-ltb (length (b.places ++ row.place ∷ [])) (most_at config course) (longer b.places row.place (most_at config course) (ltb-false (length b.places) (most_at config course) full))) h

-- ---- the index

pub none_indexed : (config : Config) → IsIndexed config [] []
none_indexed config course other b is = absurd (none-some b is)

at_grown : (config : Config) (course : Course) (row : Routed) (batches : List Batch) (k : ℕ) (batch : Batch) (p : ℕ) → slice_get batches k ≡ Some batch → IsOpenAt config course batches p → IsOpenAt config course (set batches k (added row batch)) p
at_grown config course row batches k batch p there o = ⊎_elim
    (λ (e : p ≡ k). record {
      batch = added row batch;
      there = subst (λ q. slice_get (set batches k (added row batch)) q ≡ Some (added row batch)) (sym e) (set_there batches k batch (added row batch) there);
      goes = subst (λ (q : Batch). goes_by course (course_of q.resolved) ≡ true) (same_Some o.batch batch (sym o.there ∙ ap (slice_get batches) e ∙ there)) o.goes;
      only = λ q b ne is. o.only q b ne (sym (set_other batches k q (added row batch) (λ f. ne (f ∙ sym e))) ∙ is);
    })
    (λ (isnt : p ≢ k). record {
      batch = o.batch;
      there = set_other batches k p (added row batch) isnt ∙ o.there;
      goes = o.goes;
      only = λ q b ne is. ⊎_elim
          (λ (f : q ≡ k). subst (λ z. has_room config (Some course) z ≡ false) (same_Some (added row batch) b (sym (set_there batches k batch (added row batch) there) ∙ ap (slice_get (set batches k (added row batch))) (sym f) ∙ is))
          (added_full config (Some course) row batch (o.only k batch (λ g. isnt (sym g)) there)))
          (λ (g : q ≢ k). o.only q b ne (sym (set_other batches k q (added row batch) g) ∙ is))
          (nat_cases q k);
    })
    (nat_cases p k)

by_grown : (config : Config) (course : Course) (row : Routed) (batches : List Batch) (k : ℕ) (batch : Batch) (o : Option ℕ) → slice_get batches k ≡ Some batch → IsOpenBy config course batches o → IsOpenBy config course (set batches k (added row batch)) o
by_grown config course row batches k batch (Some p) there o = at_grown config course row batches k batch p there o
by_grown config course row batches k batch None there o = λ q b is. ⊎_elim
    (λ (f : q ≡ k). subst (λ z. has_room config (Some course) z ≡ false) (same_Some (added row batch) b (sym (set_there batches k batch (added row batch) there) ∙ ap (slice_get (set batches k (added row batch))) (sym f) ∙ is))
    (added_full config (Some course) row batch (o k batch there)))
    (λ (g : q ≢ k). o q b (sym (set_other batches k q (added row batch) g) ∙ is))
    (nat_cases q k)

-- a batch with a row more stays where it is
pub indexed_grown : (config : Config) (row : Routed) (batches : List Batch) (last : List (Course × ℕ)) (k : ℕ) (d : Batch) → IsPlaceAt config (course_of row.resolved) batches k → IsIndexed config batches last → IsIndexed config (set batches k (added row (get_or batches k d))) last
indexed_grown config row batches last k d at indexed =
    subst (λ (q : Batch). IsIndexed config (set batches k (added row q)) last) (sym (get_or_from_slice_get batches k at.batch d at.there))
    (λ course. by_grown config course row batches k at.batch (lookup (same course) last) at.there (indexed course))

pub joined_place : (config : Config) (row : Routed) (batches : List Batch) (k : ℕ) (d : Batch) → IsPlaceAt config (course_of row.resolved) batches k → joined config row batches ≡ set batches k (added row (get_or batches k d))
joined_place config row batches k d at = joined_at config row d batches k at.batch at.there at.room at.only

pub place_within : (config : Config) (way : Option Course) (batches : List Batch) (k : ℕ) → IsPlaceAt config way batches k → k < length batches
place_within config way batches k at = slice_get_within batches k at.batch at.there

-- ---- a batch that is begun

same_is : (one other : Course) → same one other ≡ true → one ≡ other
same_is one other e =
    let h = and_parts (bytes_eq one.mailer other.mailer) (bytes_eq one.host other.host) e in
    let m = (bytes_decides one.mailer other.mailer).0 h.0 in
    let g = (bytes_decides one.host other.host).0 h.1 in
    λ i. record { mailer = m i; host = g i }

lookup_insert : (test : Course) (es : List (Course × ℕ)) (k : Course) (v : ℕ) → same test k ≡ false → lookup (same test) (insert_entry same es k v) ≡ lookup (same test) es
lookup_insert test [] k v isnt = ap (λ (q : Bool). if q then Some v else None) isnt
lookup_insert test (e ∷ es) k v isnt = by (same k e.0) refl (lookup_insert test es k v isnt)
  where
    by : (b : Bool) → same k e.0 ≡ b → lookup (same test) (insert_entry same es k v) ≡ lookup (same test) es → lookup (same test) (if b then (e.0, v) ∷ es else e ∷ insert_entry same es k v) ≡ lookup (same test) (e ∷ es)
    by true is rest =
        let other : same test e.0 ≡ false = ap (same test) (sym (same_is k e.0 is)) ∙ isnt in
        ap (λ (q : Bool). if q then Some v else lookup (same test) es) other ∙ sym (ap (λ (q : Bool). if q then Some e.1 else lookup (same test) es) other)
    by false is rest = ap (λ (q : Option ℕ). if same test e.0 then Some e.1 else q) rest

lookup_there : (test : Course) (es : List (Course × ℕ)) (k : Course) (v : ℕ) → same test k ≡ true → lookup (same test) (insert_entry same es k v) ≡ Some v
lookup_there test [] k v alike = ap (λ (q : Bool). if q then Some v else None) alike
lookup_there test (e ∷ es) k v alike = by (same k e.0) refl (lookup_there test es k v alike)
  where
    by : (b : Bool) → same k e.0 ≡ b → lookup (same test) (insert_entry same es k v) ≡ Some v → lookup (same test) (if b then (e.0, v) ∷ es else e ∷ insert_entry same es k v) ≡ Some v
    by true is rest =
        let this : same test e.0 ≡ true = ap (same test) (sym (same_is k e.0 is)) ∙ alike in
        ap (λ (q : Bool). if q then Some v else lookup (same test) es) this
    by false is rest =
        let other : same test e.0 ≡ false = ap (λ q. same q e.0) (same_is test k alike) ∙ is in
        ap (λ (q : Bool). if q then Some e.1 else lookup (same test) (insert_entry same es k v)) other ∙ rest

-- the batch of a row that goes elsewhere has no room
begun_full : (config : Config) (course : Course) (row : Routed) → goes_by course (course_of row.resolved) ≡ false → has_room config (Some course) (begun row) ≡ false
begun_full config course row isnt = ap (λ (q : Bool). q && nat_lt 1 (most_at config course)) isnt

by_begun : (config : Config) (course : Course) (row : Routed) (batches : List Batch) (o : Option ℕ) → goes_by course (course_of row.resolved) ≡ false → IsOpenBy config course batches o → IsOpenBy config course (batches ++ begun row ∷ []) o
by_begun config course row batches (Some p) isnt o = record {
  batch = o.batch;
  there = push_before batches (begun row) p o.batch o.there;
  goes = o.goes;
  only = λ q b ne is. ⊎_elim
      (λ e. subst (λ z. has_room config (Some course) z ≡ false) e.1 (begun_full config course row isnt))
      (λ was. o.only q b ne was) (push_cases batches (begun row) q b is);
}
by_begun config course row batches None isnt o = λ q b is. ⊎_elim
    (λ e. subst (λ z. has_room config (Some course) z ≡ false) e.1 (begun_full config course row isnt))
    (λ was. o q b was) (push_cases batches (begun row) q b is)

begun_at : (config : Config) (row : Routed) (way course : Course) (batches : List Batch) → course_of row.resolved ≡ Some way → same course way ≡ true → AreFull config (Some way) batches → IsOpenAt config course (batches ++ begun row ∷ []) (length batches)
begun_at config row way course batches is alike none = record {
  batch = begun row;
  there = push_there batches (begun row);
  goes = ap (goes_by course) is ∙ alike;
  only = λ q b ne there. ⊎_elim
      (λ e. absurd (ne e.0))
      (λ was. subst (λ z. has_room config (Some z) b ≡ false) (sym (same_is course way alike)) (none q b was)) (push_cases batches (begun row) q b there);
}

begun_by : (config : Config) (row : Routed) (way : Option Course) (batches : List Batch) (last : List (Course × ℕ)) → course_of row.resolved ≡ way → AreFull config way batches → IsIndexed config batches last
    → IsIndexed config (batches ++ begun row ∷ []) (begun_index way (length batches) last)
begun_by config row None batches last is none indexed course =
    by_begun config course row batches (lookup (same course) last) (ap (goes_by course) is) (indexed course)
begun_by config row (Some way) batches last is none indexed course = by (same course way) refl
  where
    by : (b : Bool) → same course way ≡ b → IsOpenBy config course (batches ++ begun row ∷ []) (lookup (same course) (insert_entry same last way (length batches)))
    by true e = subst (IsOpenBy config course (batches ++ begun row ∷ [])) (sym (lookup_there course last way (length batches) e)) (begun_at config row way course batches is e none)
    by false e = subst (IsOpenBy config course (batches ++ begun row ∷ [])) (sym (lookup_insert course last way (length batches) e))
        (by_begun config course row batches (lookup (same course) last) (ap (goes_by course) is ∙ e) (indexed course))

-- a batch that no other one has room for is indexed as the last one of its way
pub indexed_begun : (config : Config) (row : Routed) (batches : List Batch) (last : List (Course × ℕ)) → AreFull config (course_of row.resolved) batches → IsIndexed config batches last
    → IsIndexed config (batches ++ begun row ∷ []) (begun_index (course_of row.resolved) (length batches) last)
indexed_begun config row batches last none indexed = begun_by config row (course_of row.resolved) batches last refl none indexed

-- ---- where a row goes

-- a row that stands alone has no place
pub alone_full : (config : Config) (way : Option Course) (batches : List Batch) → way ≡ None → AreFull config way batches
alone_full config None batches is other b there = refl
alone_full config (Some course) batches is other b there = cc is

open_of : (config : Config) (way : Option Course) (course : Course) (batches : List Batch) (last : List (Course × ℕ)) (o : Option ℕ) → way ≡ Some course → IsIndexed config batches last → lookup (same course) last ≡ o → IsOpenBy config course batches o
open_of config way course batches last o is indexed there = subst (IsOpenBy config course batches) there (indexed course)

-- the place that the index says, where there is room
pub indexed_room : (config : Config) (way : Option Course) (course : Course) (batches : List Batch) (last : List (Course × ℕ)) (p : ℕ) (d : Batch) → way ≡ Some course → IsIndexed config batches last → lookup (same course) last ≡ Some p
    → nat_lt (length (get_or batches p d).places) (most_at config course) ≡ true → IsPlaceAt config way batches p
indexed_room config way course batches last p d is indexed there room =
    let o : IsOpenAt config course batches p = open_of config way course batches last (Some p) is indexed there in
    subst (λ q. IsPlaceAt config q batches p) (sym is) (record {
      batch = o.batch;
      there = o.there;
      room = and_from (goes_by course (course_of o.batch.resolved)) (nat_lt (length o.batch.places) (most_at config course)) o.goes
          (subst (λ (b : Batch). nat_lt (length b.places) (most_at config course) ≡ true) (get_or_from_slice_get batches p o.batch d o.there) room);
      only = o.only;
    })

full_at : (config : Config) (course : Course) (batches : List Batch) (p : ℕ) (d : Batch) → IsOpenAt config course batches p
    → nat_lt (length (get_or batches p d).places) (most_at config course) ≡ false → AreFull config (Some course) batches
full_at config course batches p d o full q b is = ⊎_elim
    (λ (e : q ≡ p). subst (λ (z : Batch). has_room config (Some course) z ≡ false) (same_Some o.batch b (sym o.there ∙ ap (slice_get batches) (sym e) ∙ is))
    (and_right (goes_by course (course_of o.batch.resolved)) (nat_lt (length o.batch.places) (most_at config course))
    (subst (λ (z : Batch). nat_lt (length z.places) (most_at config course) ≡ false) (get_or_from_slice_get batches p o.batch d o.there) full)))
    (λ (ne : q ≢ p). o.only q b ne is) (nat_cases q p)

pub indexed_full : (config : Config) (way : Option Course) (course : Course) (batches : List Batch) (last : List (Course × ℕ)) (p : ℕ) (d : Batch) → way ≡ Some course → IsIndexed config batches last → lookup (same course) last ≡ Some p
    → nat_lt (length (get_or batches p d).places) (most_at config course) ≡ false → AreFull config way batches
indexed_full config way course batches last p d is indexed there full =
    subst (λ q. AreFull config q batches) (sym is) (full_at config course batches p d (open_of config way course batches last (Some p) is indexed there) full)

pub indexed_none : (config : Config) (way : Option Course) (course : Course) (batches : List Batch) (last : List (Course × ℕ)) → way ≡ Some course → IsIndexed config batches last → lookup (same course) last ≡ None → AreFull config way batches
indexed_none config way course batches last is indexed there =
    subst (λ q. AreFull config q batches) (sym is) (open_of config way course batches last None is indexed there)

pub indexed_within : (config : Config) (course : Course) (batches : List Batch) (last : List (Course × ℕ)) (p : ℕ) → IsIndexed config batches last → lookup (same course) last ≡ Some p → p < length batches
indexed_within config course batches last p indexed there =
    let o : IsOpenAt config course batches p = open_of config (Some course) course batches last (Some p) refl indexed there in
    slice_get_within batches p o.batch o.there

pub room_place : (config : Config) (course : Course) (batches : List Batch) (p : ℕ) (o : IsOpenAt config course batches p) (b : Bool) (n : ℕ) → b ≡ nat_lt (length (get_or batches p o.batch).places) n → n ≡ most_at config course → b ≡ true
    → IsPlaceFor config (Some course) batches (Some p)
room_place config course batches p o b n is most good =
    record {
      batch = o.batch;
      there = o.there;
      room = and_from (goes_by course (course_of o.batch.resolved)) (nat_lt (length o.batch.places) (most_at config course)) o.goes
          (subst (λ (q : Batch). nat_lt (length q.places) (most_at config course) ≡ true) (get_or_from_slice_get batches p o.batch o.batch o.there)
          (subst (λ q. nat_lt (length (get_or batches p o.batch).places) q ≡ true) most (sym is ∙ good)));
      only = o.only;
    }

pub no_place : (config : Config) (course : Course) (batches : List Batch) (p : ℕ) (o : IsOpenAt config course batches p) (b : Bool) (n : ℕ) → b ≡ nat_lt (length (get_or batches p o.batch).places) n → n ≡ most_at config course → b ≡ false
    → IsPlaceFor config (Some course) batches None
no_place config course batches p o b n is most bad =
    full_at config course batches p o.batch o (subst (λ q. nat_lt (length (get_or batches p o.batch).places) q ≡ false) most (sym is ∙ bad))

pub open_within : (config : Config) (course : Course) (batches : List Batch) (p : ℕ) → IsOpenAt config course batches p → p < length batches
open_within config course batches p o = slice_get_within batches p o.batch o.there

pub open_there : (config : Config) (course : Course) (batches : List Batch) (last : List (Course × ℕ)) (o : Option ℕ) → IsIndexed config batches last → lookup (same course) last ≡ o → IsOpenBy config course batches o
open_there config course batches last o indexed there = subst (IsOpenBy config course batches) there (indexed course)

pub at_some : (config : Config) (way : Option Course) (batches : List Batch) (o : Option ℕ) (k : ℕ) → o ≡ Some k → IsPlaceFor config way batches o → IsPlaceAt config way batches k
at_some config way batches o k is h = subst (IsPlaceFor config way batches) is h

pub at_none : (config : Config) (way : Option Course) (batches : List Batch) (o : Option ℕ) → o ≡ None → IsPlaceFor config way batches o → AreFull config way batches
at_none config way batches o is h = subst (IsPlaceFor config way batches) is h

pub on_ok : {T E : Type 0} (r : Result T E) (P Q : Type 0) → (P → Q) → OnOk r P → OnOk r Q
on_ok (Ok x) P Q f h = f h
on_ok (Err e) P Q f h = tt

-- a row that was put into its batch, or began one
pub put_joins : {T E : Type 0} (r : Result T E) (config : Config) (row : Routed) (batches new : List Batch) (k : ℕ) (at : IsPlaceAt config (course_of row.resolved) batches k)
    → OnOk r (new ≡ set batches k (added row (get_or batches k at.batch))) → OnOk r (new ≡ joined config row batches)
put_joins r config row batches new k at h = on_ok r (new ≡ set batches k (added row (get_or batches k at.batch))) (new ≡ joined config row batches) (λ e. e ∙ sym (joined_place config row batches k at.batch at)) h

pub put_indexed : {T E : Type 0} (r : Result T E) (config : Config) (row : Routed) (batches new : List Batch) (last : List (Course × ℕ)) (k : ℕ) (at : IsPlaceAt config (course_of row.resolved) batches k) → IsIndexed config batches last
    → OnOk r (new ≡ set batches k (added row (get_or batches k at.batch))) → OnOk r (IsIndexed config new last)
put_indexed r config row batches new last k at indexed h = on_ok r (new ≡ set batches k (added row (get_or batches k at.batch))) (IsIndexed config new last)
    (λ e. subst (λ q. IsIndexed config q last) (sym e) (indexed_grown config row batches last k at.batch at indexed)) h

pub begin_joins : {T E : Type 0} (r : Result T E) (config : Config) (row : Routed) (batches new : List Batch) → AreFull config (course_of row.resolved) batches → OnOk r (new ≡ batches ++ begun row ∷ []) → OnOk r (new ≡ joined config row batches)
begin_joins r config row batches new full h = on_ok r (new ≡ batches ++ begun row ∷ []) (new ≡ joined config row batches) (λ e. e ∙ sym (joined_none config row batches full)) h

pub begin_indexed : {T E : Type 0} (r : Result T E) (config : Config) (row : Routed) (batches new : List Batch) (last now : List (Course × ℕ)) → AreFull config (course_of row.resolved) batches → IsIndexed config batches last
    → OnOk r (new ≡ batches ++ begun row ∷ []) → OnOk r (now ≡ begun_index (course_of row.resolved) (length batches) last) → OnOk r (IsIndexed config new now)
begin_indexed (Ok x) config row batches new last now full indexed h k =
    subst (λ q. IsIndexed config q now) (sym h) (subst (IsIndexed config (batches ++ begun row ∷ [])) (sym k) (indexed_begun config row batches last full indexed))
begin_indexed (Err e) config row batches new last now full indexed h k = tt
