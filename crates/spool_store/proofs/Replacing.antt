-- After a replace the map stands for the table with the new control, and is tidy.
use Rattle.std.proofs.Common.{◌≡◌, ◌≢◌, ◌⊎◌, inl, inr, ⊎_elim, ℕ, ◌<◌, ◌≤◌, ◌^◌, List, [], ◌∷◌, map, None, Bool, refl, sym, ◌∙◌, ap, subst, arith, Contains, if◌then◌else◌, eq-eqb, ne_eqb}
use Rattle.std.specs.List.Sorted.{IsStrictlySortedBy}
use Rattle.std.specs.Ordering.{nat_cmp}
use Rattle.std.proofs.lemmas.Bool.{cases_eq}
use Rattle.std.proofs.lemmas.List.Elements.{All-weaker, All-map}
use Rattle.mail_base.specs.declared.id.Kind.TheVariants.{Tf}
use Rattle.spool_store.specs.Queue.{at, Spot, spot_place, IsControl, IsRead, IsStrange, IsLive}
use Rattle.mail_base.specs.Limits.{IsId}
use Rattle.spool_disk.specs.Disk.{Place, FileMap, bytes_at}
use Rattle.mail_base.specs.declared.control.Control.{Control}
use Rattle.mail_base.specs.States.{NeedsBody}
use Rattle.spool_store.specs.Entries.{Stored, Table, ids, replaced, with_control}
use Rattle.spool_store.specs.Keepers.{raised}
use Rattle.spool_store.specs.Settled.{spot_of, HasFiles, HasRead, IsTidy, IsNamed, in_name, as_parent, IsSettled}
use Rattle.spool_store.specs.Changes.{IsRaised}
use Rattle.spool_store.proofs.Reading.{one_control}
use Rattle.spool_store.proofs.Places.{kinds_of, not_kind}
use Rattle.spool_store.proofs.Carrying.{live_read}
use Rattle.spool_store.proofs.Standing.{one_spot, one_live, contains_cases, contains_head, contains_tail, same_dir}
use Rattle.spool_store.proofs.Raising.{spot_or, raised_read, raised_strange, raised_live, others_live, others_live_back, body_but, but_to, but_back, control_but}

-- what a list has, its image has as the image
pub contains_map : {X Y : Type 0} (h : X → Y) (x : X) (xs : List X) → Contains xs x → Contains (map h xs) (h x)
contains_map h x [] k = absurd (omega (arith, k.1))
contains_map h x (y ∷ xs) k = ⊎_elim
    (λ (e : y ≡ x). subst (λ q. Contains (h y ∷ map h xs) (h q)) e (contains_head (h y) (map h xs)))
    (λ (m : Contains xs x). contains_tail (h y) (h x) (map h xs) (contains_map h x xs m))
    (contains_cases y x xs k)

replaced_at : (id : ℕ) (c : Control) (s : Stored) → s.id ≡ id → replaced id c s ≡ record { id = s.id; dir = s.dir; control = c; body = s.body }
replaced_at id c s e = ap (λ (b : Bool). if b then record { id = s.id; dir = s.dir; control = c; body = s.body } else s) (eq-eqb s.id id e)

replaced_other : (id : ℕ) (c : Control) (s : Stored) → s.id ≢ id → replaced id c s ≡ s
replaced_other id c s ne = ap (λ (b : Bool). if b then record { id = s.id; dir = s.dir; control = c; body = s.body } else s) (ne_eqb s.id id ne)

-- another control leaves the id
pub id_stays : (id : ℕ) (c : Control) (s : Stored) → (replaced id c s).id ≡ s.id
id_stays id c s = ⊎_elim (λ (e : s.id ≡ id). ap (λ (q : Stored). q.id) (replaced_at id c s e)) (λ (ne : s.id ≢ id). ap (λ (q : Stored). q.id) (replaced_other id c s ne)) (cases_eq s.id id)

-- and so the ids
pub ids_stay : (id : ℕ) (c : Control) (xs : List Stored) → ids (with_control id c xs) ≡ ids xs
ids_stay id c [] = refl
ids_stay id c (x ∷ xs) = λ j. id_stays id c x j ∷ ids_stay id c xs j

-- each entry
each_raised : (dirs : List (List ℕ)) (s : Spot) (old new : Control) (f g : FileMap) → IsRaised dirs s old new f g → (e : Stored) → HasFiles dirs f e → HasFiles dirs g (replaced s.id new e)
each_raised dirs s old new f g h e has = ⊎_elim
    (λ (i : e.id ≡ s.id).
    let one = one_live dirs f s (spot_of has.kind e) old e.control h.live has.live i in
    let its : HasFiles dirs g (record { id = e.id; dir = e.dir; control = new; body = e.body }) = record {
      kind = has.kind;
      live = subst (λ (q : Spot). IsLive dirs g q new) (sym one.0) (raised_live dirs s old new f g h);
      body = λ needs. body_but dirs s f g (but_to dirs s old new f g h) (spot_of has.kind e) ∙ has.body (subst NeedsBody one.1 (h.wanted needs));
    } in
    subst (HasFiles dirs g) (sym (replaced_at s.id new e i)) its)
    (λ (i : e.id ≢ s.id).
    let its : HasFiles dirs g e = record {
      kind = has.kind;
      live = others_live dirs s old new f g h (spot_of has.kind e) e.control (λ q. i (ap (λ (r : Spot). r.id) q)) has.live;
      body = λ needs. body_but dirs s f g (but_to dirs s old new f g h) (spot_of has.kind e) ∙ has.body needs;
    } in
    subst (HasFiles dirs g) (sym (replaced_other s.id new e i)) its)
    (cases_eq e.id s.id)

all_raised : (dirs : List (List ℕ)) (table : Table) (s : Spot) (old new : Control) (f g : FileMap) → IsRaised dirs s old new f g → IsSettled dirs table f → (t : Spot) (c : Control) → IsLive dirs g t c → HasRead (with_control s.id new table.entries) t c
all_raised dirs table s old new f g h settled t c live = ⊎_elim
    (λ (e : t ≡ s).
    let one : c ≡ new = one_control dirs g s c new (subst (λ (q : Spot). IsRead dirs g q c) e (live_read live)) (raised_read dirs s old new f g h) in
    let read = settled.stands.all s old h.live in
    let r = read.stored in
    let is = replaced_at s.id new r read.id in
    record {
      stored = replaced s.id new r;
      among = contains_map (replaced s.id new) r table.entries read.among;
      id = ap (λ (q : Stored). q.id) is ∙ read.id ∙ sym (ap (λ (q : Spot). q.id) e);
      dir = ap (λ (q : Stored). q.dir) is ∙ read.dir ∙ sym (ap (λ (q : Spot). q.dir) e);
      control = ap (λ (q : Stored). q.control) is ∙ sym one;
    })
    (λ (ne : t ≢ s).
    let read = settled.stands.all t c (others_live_back dirs table.next s old new f g h settled.tidy t c ne live) in
    let r = read.stored in
    let apart : r.id ≢ s.id = λ i. ne (sym (one_spot dirs g t s c (raised_read dirs s old new f g h).bytes live (raised_read dirs s old new f g h).there (sym i ∙ read.id))) in
    let is = replaced_other s.id new r apart in
    record {
      stored = replaced s.id new r;
      among = contains_map (replaced s.id new) r table.entries read.among;
      id = ap (λ (q : Stored). q.id) is ∙ read.id;
      dir = ap (λ (q : Stored). q.dir) is ∙ read.dir;
      control = ap (λ (q : Stored). q.control) is ∙ read.control;
    })
    (spot_or dirs t s)

-- places are equal or not
pub place_or : (p q : Place) → (p ≡ q) ⊎ (p ≢ q)
place_or p q = ⊎_elim
    (λ (d : p.0 ≡ q.0). ⊎_elim (λ (n : p.1 ≡ q.1). inl (λ j. (d j, n j))) (λ (n : p.1 ≢ q.1). inr (λ e. n (ap (λ (r : Place). r.1) e))) (same_dir p.1 q.1))
    (λ (d : p.0 ≢ q.0). inr (λ e. d (ap (λ (r : Place). r.0) e)))
    (same_dir p.0 q.0)

-- no id is named that wasn't
pub named_raised : (dirs : List (List ℕ)) (s : Spot) (old new : Control) (f g : FileMap) → IsRaised dirs s old new f g → (id : ℕ) → IsNamed dirs g id → IsNamed dirs f id
named_raised dirs s old new f g h id (in_name dir kind bytes among within there) = ⊎_elim
    (λ (e : at dir kind id ≡ spot_place s).
    let read = live_read h.live in
    in_name dir kind read.bytes among within (ap (bytes_at f) e ∙ read.there.there))
    (λ (ne : at dir kind id ≢ spot_place s). in_name dir kind bytes among within (sym (h.others (at dir kind id) ne) ∙ there))
    (place_or (at dir kind id) (spot_place s))
named_raised dirs s old new f g h id (as_parent t c p read e i) = ⊎_elim
    (λ (q : t ≡ s).
    let one : c ≡ new = one_control dirs g s c new (subst (λ (r : Spot). IsRead dirs g r c) q read) (raised_read dirs s old new f g h) in
    as_parent s old p (live_read h.live) (sym h.parent ∙ ap (λ (r : Control). r.parent) (sym one) ∙ e) i)
    (λ (ne : t ≢ s). as_parent t c p (record { bytes = read.bytes; there = control_but dirs s g f (but_back dirs s old new f g h) t read.bytes ne read.there; says = read.says }) e i)
    (spot_or dirs t s)

-- after a replace each control file that isn't strange is live
pub whole_raised : (dirs : List (List ℕ)) (next : ℕ) (s : Spot) (old new : Control) (f g : FileMap) → IsRaised dirs s old new f g → IsTidy dirs next f → (t : Spot) (b : List ℕ) → IsControl dirs g t b → (IsStrange dirs g t → ⊥) → (c : Control) × IsLive dirs g t c
whole_raised dirs next s old new f g h tidy t b there plain = ⊎_elim
    (λ (e : t ≡ s). (new, subst (λ (q : Spot). IsLive dirs g q new) (sym e) (raised_live dirs s old new f g h)))
    (λ (ne : t ≢ s).
    let w = tidy.whole t b (control_but dirs s g f (but_back dirs s old new f g h) t b ne there) (λ k. plain (raised_strange dirs s old new f g h t k)) in
    (w.0, others_live dirs s old new f g h t w.0 ne w.1))
    (spot_or dirs t s)

-- after a replace no draft is there
pub drafts_raised : (dirs : List (List ℕ)) (next : ℕ) (s : Spot) (old new : Control) (f g : FileMap) → IsRaised dirs s old new f g → IsTidy dirs next f → (dir : List ℕ) (id : ℕ) → Contains dirs dir → IsId id → bytes_at g (at dir Tf id) ≡ None
drafts_raised dirs next s old new f g h tidy dir id among within = h.others (at dir Tf id) (λ e. (not_kind s.kind (live_read h.live).there.spot.kind).1 (sym (kinds_of dir s.dir Tf s.kind id s.id e))) ∙ tidy.drafts dir id among within

-- after a replace the map is settled for the table with the new control
pub replaced_settled : (dirs : List (List ℕ)) (table : Table) (s : Spot) (old new : Control) (f g : FileMap) → IsRaised dirs s old new f g → IsSettled dirs table f → IsSettled dirs (record { entries = with_control s.id new table.entries; next = table.next }) g
replaced_settled dirs table s old new f g h settled = record {
  stands = record {
    ascending = subst (λ (q : List ℕ). IsStrictlySortedBy nat_cmp q) (sym (ids_stay s.id new table.entries)) settled.stands.ascending;
    each = All-map (HasFiles dirs g) (replaced s.id new) table.entries (All-weaker (HasFiles dirs f) (λ e. HasFiles dirs g (replaced s.id new e)) (λ e has. each_raised dirs s old new f g h e has) table.entries settled.stands.each);
    all = λ t c live. all_raised dirs table s old new f g h settled t c live;
  };
  tidy = record {
    whole = λ t b there plain. whole_raised dirs table.next s old new f g h settled.tidy t b there plain;
    fresh = λ id named. settled.tidy.fresh id (named_raised dirs s old new f g h id named);
    drafts = drafts_raised dirs table.next s old new f g h settled.tidy;
  };
}

-- a raised revision is no less
pub raised_least : (r : ℕ) → r < 2 ^ 64 → r ≤ raised r
raised_least r lt = grind (arith, lt)
