-- New entries whose parents are there: the map stands for the table with them, and is tidy.
use Rattle.std.proofs.Common.{◌≡◌, inl, ⊎_elim, ℕ, zero, suc, ◌<◌, ◌≤◌, List, [], ◌∷◌, ◌++◌, Some, None, refl, sym, ◌∙◌, ap, subst, arith, Contains, Less}
use Rattle.std.specs.Prelude.{All}
use Rattle.std.specs.List.{AllByRecursion}
use Rattle.std.specs.List.Sorted.{IsStrictlySortedBy}
use Rattle.std.specs.Ordering.{nat_cmp}
use Rattle.std.specs.Cmp.{nat_cmp_is}
use Rattle.std.proofs.lemmas.Bool.{cases_lt}
use Rattle.std.proofs.lemmas.List.Elements.{All-contains, All-weaker, All-append, All-head, All-tail, Contains-append_left, Contains-append_right, All-contains_itself}
use Rattle.mail_base.specs.declared.id.Kind.{Kind}
use Rattle.mail_base.specs.declared.id.Kind.TheVariants.{Df, Qf, Tf, Sf}
use Rattle.spool_store.specs.Queue.{at, Spot, spot_place, body_place, IsSpot, IsControl, IsRead, IsStrange, unread, twice, upward, under, bodiless, reopened, IsLive, alone, child}
use Rattle.mail_base.specs.Limits.{IsId}
use Rattle.spool_disk.specs.Disk.{FileMap, bytes_at}
use Rattle.mail_base.specs.declared.control.Control.{Control}
use Rattle.mail_base.specs.declared.control.Parent.{Parent}
use Rattle.qf_format.specs.Spelling.{spelled}
use Rattle.spool_store.specs.Alike.{AreAlike}
use Rattle.spool_store.specs.Entries.{Stored, Table, ids}
use Rattle.spool_store.specs.Settled.{spot_of, HasFiles, HasRead, IsTidy, IsNamed, in_name, as_parent, IsSettled}
use Rattle.spool_store.specs.Changes.{IsNew, IsRooted, of_none, of_added, of_live, IsPut, control, body, other, HoldsBoth, IsAdded}
use Rattle.spool_store.proofs.Reading.{says_one, same_spot}
use Rattle.spool_store.proofs.Places.{kinds_of, ids_of, not_kind}
use Rattle.spool_store.proofs.Carrying.{live_read, live_plain, strange_control, strange_alike, live_alike, alike_back, control_alike, read_alike}
use Rattle.spool_store.proofs.Standing.{one_spot, contains_cases, sorted_head, sorted_tail}

-- lists in order
less_append : (n : ℕ) (xs ys : List Stored) → AllByRecursion (λ y. nat_cmp n y ≡ Less) (ids xs) → All (λ s. n < s.id) ys → AllByRecursion (λ y. nat_cmp n y ≡ Less) (ids (xs ++ ys))
less_append n [] [] h below = tt
less_append n [] (y ∷ ys) h below = (sym (nat_cmp_is n y.id Less (All-head (λ (s : Stored). n < s.id) y ys below)), less_append n [] ys tt (All-tail (λ (s : Stored). n < s.id) y ys below))
less_append n (x ∷ xs) ys h below = (h.0, less_append n xs ys h.1 below)

pub sorted_append : (xs ys : List Stored) (next : ℕ) → IsStrictlySortedBy nat_cmp (ids xs) → IsStrictlySortedBy nat_cmp (ids ys) → All (λ s. s.id < next) xs → All (λ s. next ≤ s.id) ys → IsStrictlySortedBy nat_cmp (ids (xs ++ ys))
unfolding IsStrictlySortedBy
sorted_append [] ys next p q low high = q
sorted_append (x ∷ xs) ys next p q low high =
    let lt : x.id < next = All-head (λ (s : Stored). s.id < next) x xs low in
    (less_append x.id xs ys p.0 (All-weaker (λ (s : Stored). next ≤ s.id) (λ (s : Stored). x.id < s.id) (λ s le. omega (arith, le, lt)) ys high), sorted_append xs ys next p.1 q (All-tail (λ (s : Stored). s.id < next) x xs low) high)

-- an id is that of one entry
pub one_entry : (xs : List Stored) (s t : Stored) → IsStrictlySortedBy nat_cmp (ids xs) → Contains xs s → Contains xs t → s.id ≡ t.id → s ≡ t
one_entry [] s t h p q e = absurd (omega (arith, p.1))
one_entry (x ∷ xs) s t h p q e = ⊎_elim
    (λ (a : x ≡ s). ⊎_elim
    (λ (b : x ≡ t). sym a ∙ b)
    (λ (b : Contains xs t). absurd (omega (arith, sorted_head x t xs h b, e, ap (λ (r : Stored). r.id) a)))
    (contains_cases x t xs q))
    (λ (a : Contains xs s). ⊎_elim
    (λ (b : x ≡ t). absurd (omega (arith, sorted_head x s xs h a, e, ap (λ (r : Stored). r.id) b)))
    (λ (b : Contains xs t). one_entry xs s t (sorted_tail x xs h) a b e)
    (contains_cases x t xs q))
    (contains_cases x s xs p)

-- the part of an IsAdded at one entry
new_at : (dirs : List (List ℕ)) (next : ℕ) (added : List Stored) (f g : FileMap) → IsAdded dirs next added f g → (s : Stored) → Contains added s → IsNew dirs next s
new_at dirs next added f g h s k = All-contains (IsNew dirs next) added s h.new k

same_control : (dirs : List (List ℕ)) (next : ℕ) (added : List Stored) (f g : FileMap) → IsAdded dirs next added f g → (t : Spot) → IsSpot dirs t → t.id < next → IsPut added f g (spot_place t) → bytes_at g (spot_place t) ≡ bytes_at f (spot_place t)
same_control dirs next added f g h t spot lt (control s k e holds) =
    let new = new_at dirs next added f g h s k in
    let i : t.id ≡ s.id = ids_of t.dir s.dir t.kind Qf t.id s.id spot.within new.within e in
    absurd (omega (arith, i, lt, new.free))
same_control dirs next added f g h t spot lt (body s k e holds) = absurd ((not_kind t.kind spot.kind).0 (kinds_of t.dir s.dir t.kind Df t.id s.id e))
same_control dirs next added f g h t spot lt (other e) = e

same_body : (dirs : List (List ℕ)) (next : ℕ) (added : List Stored) (f g : FileMap) → IsAdded dirs next added f g → (t : Spot) → IsSpot dirs t → t.id < next → IsPut added f g (body_place t) → bytes_at g (body_place t) ≡ bytes_at f (body_place t)
same_body dirs next added f g h t spot lt (control s k e holds) = absurd (let z : Df ≡ Qf = kinds_of t.dir s.dir Df Qf t.id s.id e in cc z)
same_body dirs next added f g h t spot lt (body s k e holds) =
    let new = new_at dirs next added f g h s k in
    let i : t.id ≡ s.id = ids_of t.dir s.dir Df Df t.id s.id spot.within new.within e in
    absurd (omega (arith, i, lt, new.free))
same_body dirs next added f g h t spot lt (other e) = e

-- below the first free id nothing has changed
pub added_alike : (dirs : List (List ℕ)) (next : ℕ) (added : List Stored) (f g : FileMap) → IsAdded dirs next added f g → AreAlike dirs (λ id. id < next) f g
added_alike dirs next added f g h = record {
  controls = λ t spot lt. same_control dirs next added f g h t spot lt (h.at (spot_place t));
  bodies = λ t c lt read needs. same_body dirs next added f g h t read.there.spot lt (h.at (body_place t));
  up = λ t c p lt read e less. omega (arith, lt, less);
}

-- a control file of a free id is that of a new entry
pub record IsOf (added : List Stored) (t : Spot) (bytes : List ℕ) : Type 0 where
  pub stored : Stored
  pub among : Contains added stored
  pub is : t ≡ spot_of Qf stored
  pub bytes_are : bytes ≡ spelled stored.control

of_added_at : (dirs : List (List ℕ)) (next : ℕ) (added : List Stored) (f g : FileMap) → IsAdded dirs next added f g → IsTidy dirs next f → (t : Spot) (b : List ℕ) → IsControl dirs g t b → next ≤ t.id → IsPut added f g (spot_place t) → IsOf added t b
of_added_at dirs next added f g h tidy t b there le (control s k e holds) =
    let new = new_at dirs next added f g h s k in
    let same : Some b ≡ Some (spelled s.control) = sym there.there ∙ holds in
    record { stored = s; among = k; is = same_spot t (spot_of Qf s) there.spot.within new.within e; bytes_are = cc }
of_added_at dirs next added f g h tidy t b there le (body s k e holds) = absurd ((not_kind t.kind there.spot.kind).0 (kinds_of t.dir s.dir t.kind Df t.id s.id e))
of_added_at dirs next added f g h tidy t b there le (other e) = absurd (let lt : t.id < next = tidy.fresh t.id (in_name t.dir t.kind b there.spot.among there.spot.within (sym e ∙ there.there)) in omega arith)

pub of_added_entry : (dirs : List (List ℕ)) (next : ℕ) (added : List Stored) (f g : FileMap) → IsAdded dirs next added f g → IsTidy dirs next f → (t : Spot) (b : List ℕ) → IsControl dirs g t b → next ≤ t.id → IsOf added t b
of_added_entry dirs next added f g h tidy t b there le = of_added_at dirs next added f g h tidy t b there le (h.at (spot_place t))

-- what is read there
pub of_added_read : (dirs : List (List ℕ)) (next : ℕ) (added : List Stored) (f g : FileMap) → IsAdded dirs next added f g → IsTidy dirs next f → (t : Spot) (c : Control) → IsRead dirs g t c → next ≤ t.id → (s : Stored) × Contains added s × (t ≡ spot_of Qf s) × (c ≡ s.control)
of_added_read dirs next added f g h tidy t c read le =
    let of = of_added_entry dirs next added f g h tidy t read.bytes read.there le in
    let new = new_at dirs next added f g h of.stored of.among in
    (of.stored, of.among, of.is, says_one read.bytes c of.stored.control read.says (record { valid = new.valid; text = of.bytes_are }))

pub added_read : (dirs : List (List ℕ)) (next : ℕ) (added : List Stored) (f g : FileMap) → IsAdded dirs next added f g → (s : Stored) → Contains added s → IsRead dirs g (spot_of Qf s) s.control
added_read dirs next added f g h s k =
    let new = new_at dirs next added f g h s k in
    record {
      bytes = spelled s.control;
      there = record { spot = record { among = new.among; kind = inl refl; within = new.within }; there = (All-contains (HoldsBoth g) added s h.holds k).control };
      says = record { valid = new.valid; text = refl };
    }

-- an id that has a live control file is named
pub live_named : (dirs : List (List ℕ)) (f : FileMap) (s : Spot) (c : Control) → IsLive dirs f s c → IsNamed dirs f s.id
live_named dirs f s c live = let there = (live_read live).there in in_name s.dir s.kind (live_read live).bytes there.spot.among there.spot.within there.there

-- what stands above a new entry, by its root
not_upward : (dirs : List (List ℕ)) (f : FileMap) (added : List Stored) (s : Stored) (p : Parent) → IsRooted dirs f added s → s.control.parent ≡ Some p → p.id < s.id
not_upward dirs f added s p (of_none e) q = absurd (let z = sym e ∙ q in cc z)
not_upward dirs f added s p (of_added r a e lt k i le) q = let z : r ≡ p = (let y = sym e ∙ q in cc) in omega (arith, lt, ap (λ (w : Parent). w.id) z)
not_upward dirs f added s p (of_live r e lt live) q = let z : r ≡ p = (let y = sym e ∙ q in cc) in omega (arith, lt, ap (λ (w : Parent). w.id) z)

-- a strange control file above it would be that of a free id
above_free : (dirs : List (List ℕ)) (next : ℕ) (added : List Stored) (f g : FileMap) → IsAdded dirs next added f g → IsTidy dirs next f → (s : Stored) (p : Parent) (above : Spot) → IsRooted dirs f added s → s.control.parent ≡ Some p → above.id ≡ p.id → IsStrange dirs g above → next ≤ above.id
above_free dirs next added f g h tidy s p above (of_none e) q i k = absurd (let z = sym e ∙ q in cc z)
above_free dirs next added f g h tidy s p above (of_added r a e lt m j le) q i k =
    let z : r ≡ p = (let y = sym e ∙ q in cc) in
    let new = new_at dirs next added f g h a m in
    omega (arith, new.free, j, i, ap (λ (w : Parent). w.id) z)
above_free dirs next added f g h tidy s p above (of_live r e lt has) q i k =
    let z : r ≡ p = (let y = sym e ∙ q in cc) in
    let same : above.id ≡ has.above.id = i ∙ sym (ap (λ (w : Parent). w.id) z) ∙ sym has.id in
    let old : has.above.id < next = tidy.fresh has.above.id (live_named dirs f has.above has.control has.live) in
    let lt : above.id < next = omega (arith, same, old) in
    let strange = strange_alike dirs (λ id. id < next) g f (alike_back dirs (λ id. id < next) f g (added_alike dirs next added f g h)) above lt k in
    let there = strange_control strange in
    absurd (live_plain has.live (subst (λ (w : Spot). IsStrange dirs f w) (one_spot dirs f has.above above has.control there.0 has.live there.1 same) strange))

-- no control file of a free id is strange
pub added_plain : (dirs : List (List ℕ)) (next : ℕ) (added : List Stored) (f g : FileMap) → IsAdded dirs next added f g → IsTidy dirs next f → {t : Spot} → IsStrange dirs g t → next ≤ t.id → ⊥
added_plain dirs next added f g h tidy (unread t b there none) le =
    let of = of_added_entry dirs next added f g h tidy t b there le in
    none of.stored.control (record { valid = (new_at dirs next added f g h of.stored of.among).valid; text = of.bytes_are })
added_plain dirs next added f g h tidy (twice t b there twin) le =
    let of = of_added_entry dirs next added f g h tidy t b there le in
    let on = of_added_entry dirs next added f g h tidy twin.other twin.bytes twin.there (omega (arith, le, twin.id)) in
    let i : on.stored.id ≡ of.stored.id = sym (ap (λ (r : Spot). r.id) on.is) ∙ twin.id ∙ ap (λ (r : Spot). r.id) of.is in
    let same : on.stored ≡ of.stored = one_entry added on.stored of.stored h.ascending on.among of.among i in
    twin.apart (on.is ∙ ap (spot_of Qf) same ∙ sym of.is)
added_plain dirs next added f g h tidy (upward t c p read q le') le =
    let r = of_added_read dirs next added f g h tidy t c read le in
    let lt : p.id < r.0.id = not_upward dirs f added r.0 p (All-contains (IsRooted dirs f added) added r.0 h.rooted r.1) (sym (ap (λ (w : Control). w.parent) r.3) ∙ q) in
    omega (arith, lt, le', ap (λ (w : Spot). w.id) r.2)
added_plain dirs next added f g h tidy (under t c p above read u k) le =
    let r = of_added_read dirs next added f g h tidy t c read le in
    added_plain dirs next added f g h tidy k (above_free dirs next added f g h tidy r.0 p above (All-contains (IsRooted dirs f added) added r.0 h.rooted r.1) (sym (ap (λ (w : Control). w.parent) r.3) ∙ u.parent) u.id k)
added_plain dirs next added f g h tidy (bodiless t c read needs none) le =
    let r = of_added_read dirs next added f g h tidy t c read le in
    let there = (All-contains (HoldsBoth g) added r.0 h.holds r.1).body in
    let z : Some r.0.body ≡ None = sym there ∙ ap (λ (w : Spot). bytes_at g (body_place w)) (sym r.2) ∙ none in cc z
added_plain dirs next added f g h tidy (reopened t c read sf rows) le =
    let r = of_added_read dirs next added f g h tidy t c read le in
    let z : Qf ≡ Sf = sym (ap (λ (w : Spot). w.kind) r.2) ∙ sf in cc z

-- each new entry is live
live_by : (dirs : List (List ℕ)) (next : ℕ) (added : List Stored) (f g : FileMap) → IsAdded dirs next added f g → IsTidy dirs next f → (n : ℕ) → ((a : Stored) → Contains added a → a.id < n → IsLive dirs g (spot_of Qf a) a.control) → (s : Stored) → Contains added s → s.id < suc n → IsRooted dirs f added s → IsLive dirs g (spot_of Qf s) s.control
live_by dirs next added f g h tidy n less s k lt (of_none e) = alone (spot_of Qf s) s.control (added_read dirs next added f g h s k) (λ x. added_plain dirs next added f g h tidy x (new_at dirs next added f g h s k).free) e
live_by dirs next added f g h tidy n less s k lt (of_added p a e up m i le) = child (spot_of Qf s) s.control p (spot_of Qf a) a.control (added_read dirs next added f g h s k) (λ x. added_plain dirs next added f g h tidy x (new_at dirs next added f g h s k).free) (record { parent = e; less = up; id = i }) (less a m (omega (arith, i, up, lt))) le
live_by dirs next added f g h tidy n less s k lt (of_live p e up has) = child (spot_of Qf s) s.control p has.above has.control (added_read dirs next added f g h s k) (λ x. added_plain dirs next added f g h tidy x (new_at dirs next added f g h s k).free) (record { parent = e; less = up; id = has.id }) (live_alike dirs (λ id. id < next) f g (added_alike dirs next added f g h) has.above has.control (tidy.fresh has.above.id (live_named dirs f has.above has.control has.live)) has.live) has.least

live_below : (dirs : List (List ℕ)) (next : ℕ) (added : List Stored) (f g : FileMap) → IsAdded dirs next added f g → IsTidy dirs next f → (n : ℕ) (s : Stored) → Contains added s → s.id < n → IsLive dirs g (spot_of Qf s) s.control
live_below dirs next added f g h tidy zero s k lt = absurd (omega (arith, lt))
live_below dirs next added f g h tidy (suc n) s k lt = live_by dirs next added f g h tidy n (λ a m less. live_below dirs next added f g h tidy n a m less) s k lt (All-contains (IsRooted dirs f added) added s h.rooted k)

-- control files of new entries are live
pub added_live : (dirs : List (List ℕ)) (next : ℕ) (added : List Stored) (f g : FileMap) → IsAdded dirs next added f g → IsTidy dirs next f → (s : Stored) → Contains added s → IsLive dirs g (spot_of Qf s) s.control
added_live dirs next added f g h tidy s k = live_below dirs next added f g h tidy (suc s.id) s k (omega arith)

-- the entries of a map
each_old : (dirs : List (List ℕ)) (next : ℕ) (added : List Stored) (f g : FileMap) → IsAdded dirs next added f g → IsTidy dirs next f → (e : Stored) → HasFiles dirs f e → HasFiles dirs g e
each_old dirs next added f g h tidy e has =
    let lt : e.id < next = tidy.fresh e.id (live_named dirs f (spot_of has.kind e) e.control has.live) in
    let alike = added_alike dirs next added f g h in
    record {
      kind = has.kind;
      live = live_alike dirs (λ id. id < next) f g alike (spot_of has.kind e) e.control lt has.live;
      body = λ needs. alike.bodies (spot_of has.kind e) e.control lt (live_read has.live) needs ∙ has.body needs;
    }

each_new : (dirs : List (List ℕ)) (next : ℕ) (added : List Stored) (f g : FileMap) → IsAdded dirs next added f g → IsTidy dirs next f → (s : Stored) → Contains added s → HasFiles dirs g s
each_new dirs next added f g h tidy s k = record { kind = Qf; live = added_live dirs next added f g h tidy s k; body = λ needs. (All-contains (HoldsBoth g) added s h.holds k).body }

all_added : (dirs : List (List ℕ)) (table : Table) (added : List Stored) (f g : FileMap) → IsAdded dirs table.next added f g → IsSettled dirs table f → (t : Spot) (c : Control) → IsLive dirs g t c → HasRead (table.entries ++ added) t c
all_added dirs table added f g h settled t c live = ⊎_elim
    (λ (lt : t.id < table.next).
    let read = settled.stands.all t c (live_alike dirs (λ id. id < table.next) g f (alike_back dirs (λ id. id < table.next) f g (added_alike dirs table.next added f g h)) t c lt live) in
    record { stored = read.stored; among = Contains-append_left table.entries added read.stored read.among; id = read.id; dir = read.dir; control = read.control })
    (λ (le : table.next ≤ t.id).
    let r = of_added_read dirs table.next added f g h settled.tidy t c (live_read live) le in
    record { stored = r.0; among = Contains-append_right table.entries added r.0 r.1; id = ap (λ (w : Spot). w.id) (sym r.2); dir = ap (λ (w : Spot). w.dir) (sym r.2); control = sym r.3 })
    (cases_lt t.id table.next)

-- its names
named_place : (dirs : List (List ℕ)) (next after : ℕ) (added : List Stored) (f g : FileMap) → IsAdded dirs next added f g → IsTidy dirs next f → next ≤ after → All (λ s. s.id < after) added → (dir : List ℕ) (kind : Kind) (id : ℕ) (bytes : List ℕ) → Contains dirs dir → IsId id → bytes_at g (at dir kind id) ≡ Some bytes → IsPut added f g (at dir kind id) → id < after
named_place dirs next after added f g h tidy le below dir kind id bytes among within there (control s k e holds) =
    let i : id ≡ s.id = ids_of dir s.dir kind Qf id s.id within (new_at dirs next added f g h s k).within e in
    omega (arith, i, All-contains (λ (q : Stored). q.id < after) added s below k)
named_place dirs next after added f g h tidy le below dir kind id bytes among within there (body s k e holds) =
    let i : id ≡ s.id = ids_of dir s.dir kind Df id s.id within (new_at dirs next added f g h s k).within e in
    omega (arith, i, All-contains (λ (q : Stored). q.id < after) added s below k)
named_place dirs next after added f g h tidy le below dir kind id bytes among within there (other e) =
    let lt : id < next = tidy.fresh id (in_name dir kind bytes among within (sym e ∙ there)) in omega (arith, lt, le)

named_parent : (dirs : List (List ℕ)) (next after : ℕ) (added : List Stored) (f g : FileMap) → IsAdded dirs next added f g → IsTidy dirs next f → next ≤ after → All (λ s. s.id < after) added → (t : Spot) (c : Control) (p : Parent) → IsRead dirs g t c → c.parent ≡ Some p → p.id < after
named_parent dirs next after added f g h tidy le below t c p read e = ⊎_elim
    (λ (lt : t.id < next).
    let old = read_alike dirs (λ id. id < next) g f (alike_back dirs (λ id. id < next) f g (added_alike dirs next added f g h)) t c lt read in
    let less : p.id < next = tidy.fresh p.id (as_parent t c p old e refl) in omega (arith, less, le))
    (λ (free : next ≤ t.id).
    let r = of_added_read dirs next added f g h tidy t c read free in
    let up : p.id < r.0.id = not_upward dirs f added r.0 p (All-contains (IsRooted dirs f added) added r.0 h.rooted r.1) (sym (ap (λ (w : Control). w.parent) r.3) ∙ e) in
    omega (arith, up, All-contains (λ (q : Stored). q.id < after) added r.0 below r.1))
    (cases_lt t.id next)

named_added : (dirs : List (List ℕ)) (next after : ℕ) (added : List Stored) (f g : FileMap) → IsAdded dirs next added f g → IsTidy dirs next f → next ≤ after → All (λ s. s.id < after) added → (id : ℕ) → IsNamed dirs g id → id < after
named_added dirs next after added f g h tidy le below id (in_name dir kind bytes among within there) = named_place dirs next after added f g h tidy le below dir kind id bytes among within there (h.at (at dir kind id))
named_added dirs next after added f g h tidy le below id (as_parent t c p read e i) =
    let lt = named_parent dirs next after added f g h tidy le below t c p read e in omega (arith, lt, i)

drafts_added : (added : List Stored) (f g : FileMap) (dir : List ℕ) (id : ℕ) → IsPut added f g (at dir Tf id) → bytes_at f (at dir Tf id) ≡ None → bytes_at g (at dir Tf id) ≡ None
drafts_added added f g dir id (control s k e holds) none = absurd (let z : Tf ≡ Qf = kinds_of dir s.dir Tf Qf id s.id e in cc z)
drafts_added added f g dir id (body s k e holds) none = absurd (let z : Tf ≡ Df = kinds_of dir s.dir Tf Df id s.id e in cc z)
drafts_added added f g dir id (other e) none = e ∙ none

whole_added : (dirs : List (List ℕ)) (next : ℕ) (added : List Stored) (f g : FileMap) → IsAdded dirs next added f g → IsTidy dirs next f → (t : Spot) (b : List ℕ) → IsControl dirs g t b → (IsStrange dirs g t → ⊥) → (c : Control) × IsLive dirs g t c
whole_added dirs next added f g h tidy t b there plain = ⊎_elim
    (λ (lt : t.id < next).
    let alike = added_alike dirs next added f g h in
    let w = tidy.whole t b (control_alike dirs (λ id. id < next) g f (alike_back dirs (λ id. id < next) f g alike) t b lt there) (λ k. plain (strange_alike dirs (λ id. id < next) f g alike t lt k)) in
    (w.0, live_alike dirs (λ id. id < next) f g alike t w.0 lt w.1))
    (λ (le : next ≤ t.id).
    let of = of_added_entry dirs next added f g h tidy t b there le in
    (of.stored.control, subst (λ (w : Spot). IsLive dirs g w of.stored.control) (sym of.is) (added_live dirs next added f g h tidy of.stored of.among)))
    (cases_lt t.id next)

all_from : {X : Type 0} (P : X → Type 0) (xs : List X) → ((x : X) → Contains xs x → P x) → All P xs
all_from P xs to = All-weaker (Contains xs) P to xs (All-contains_itself xs)

entries_below : (dirs : List (List ℕ)) (table : Table) (f : FileMap) → IsSettled dirs table f → All (λ s. s.id < table.next) table.entries
entries_below dirs table f settled = All-weaker (HasFiles dirs f) (λ (s : Stored). s.id < table.next) (λ e has. settled.tidy.fresh e.id (live_named dirs f (spot_of has.kind e) e.control has.live)) table.entries settled.stands.each

-- a tidy map with new entries is tidy for the next id after them
pub added_tidy : (dirs : List (List ℕ)) (next after : ℕ) (added : List Stored) (f g : FileMap) → IsAdded dirs next added f g → IsTidy dirs next f → next ≤ after → All (λ s. s.id < after) added → IsTidy dirs after g
added_tidy dirs next after added f g h tidy le below = record {
  whole = whole_added dirs next added f g h tidy;
  fresh = named_added dirs next after added f g h tidy le below;
  drafts = λ dir id among within. drafts_added added f g dir id (h.at (at dir Tf id)) (tidy.drafts dir id among within);
}

-- both: the map after is settled
pub added_settled : (dirs : List (List ℕ)) (table : Table) (after : ℕ) (added : List Stored) (f g : FileMap) → IsAdded dirs table.next added f g → table.next ≤ after → All (λ s. s.id < after) added → IsSettled dirs table f → IsSettled dirs (record { entries = table.entries ++ added; next = after }) g
added_settled dirs table after added f g h le below settled = record {
  stands = record {
    ascending = sorted_append table.entries added table.next settled.stands.ascending h.ascending (entries_below dirs table f settled) (All-weaker (IsNew dirs table.next) (λ (s : Stored). table.next ≤ s.id) (λ s new. new.free) added h.new);
    each = All-append (HasFiles dirs g) table.entries added (All-weaker (HasFiles dirs f) (HasFiles dirs g) (each_old dirs table.next added f g h settled.tidy) table.entries settled.stands.each) (all_from (HasFiles dirs g) added (each_new dirs table.next added f g h settled.tidy));
    all = all_added dirs table added f g h settled;
  };
  tidy = added_tidy dirs table.next after added f g h settled.tidy le below;
}

-- the same files are strange
pub added_strange : (dirs : List (List ℕ)) (next : ℕ) (added : List Stored) (f g : FileMap) → IsAdded dirs next added f g → IsTidy dirs next f → (t : Spot) → IsStrange dirs f t → IsStrange dirs g t
added_strange dirs next added f g h tidy t k =
    let there = strange_control k in
    strange_alike dirs (λ id. id < next) f g (added_alike dirs next added f g h) t (tidy.fresh t.id (in_name t.dir t.kind there.0 there.1.spot.among there.1.spot.within there.1.there)) k

-- a control file that is strange with new entries was strange before
pub added_strange_back : (dirs : List (List ℕ)) (next : ℕ) (added : List Stored) (f g : FileMap) → IsAdded dirs next added f g → IsTidy dirs next f → (t : Spot) → IsStrange dirs g t → IsStrange dirs f t
added_strange_back dirs next added f g h tidy t k = ⊎_elim
    (λ (lt : t.id < next). strange_alike dirs (λ id. id < next) g f (alike_back dirs (λ id. id < next) f g (added_alike dirs next added f g h)) t lt k)
    (λ (le : next ≤ t.id). absurd (added_plain dirs next added f g h tidy k le))
    (cases_lt t.id next)
