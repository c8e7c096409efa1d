-- Each verdict of an opening, from the verdict above, and the table that a map stands for.
use Rattle.std.proofs.Common.{◌≡◌, ◌≢◌, ⊎_elim, ℕ, ◌<◌, ◌≤◌, List, [], ◌∷◌, map, Option, Some, None, refl, sym, ◌∙◌, ap, subst, arith, unwrap_or}
use Rattle.std.specs.List.Sorted.{IsStrictlySortedBy}
use Rattle.std.specs.Ordering.{nat_cmp}
use Rattle.std.proofs.lemmas.List.Elements.{All-weaker, All-map}
use Rattle.mail_base.specs.declared.id.Kind.{Kind}
use Rattle.mail_base.specs.declared.id.Kind.TheVariants.{Df, Sf}
use Rattle.qf_format.specs.Saying.{Says}
use Rattle.spool_store.specs.Queue.{at, IsOpen, Spot, IsControl, IsRead, HasTwin, IsUnder, IsStrange, unread, twice, upward, under, bodiless, reopened, IsLive, alone, child}
use Rattle.spool_disk.specs.Disk.{FileMap, bytes_at}
use Rattle.mail_base.specs.declared.control.Control.{Control}
use Rattle.mail_base.specs.declared.control.Parent.{Parent}
use Rattle.mail_base.specs.States.{NeedsBody}
use Rattle.spool_store.specs.Entries.{Stored, ids}
use Rattle.spool_store.specs.Settled.{spot_of, HasFiles, HasRead, StandsFor}
use Rattle.spool_store.specs.Tidying.{IsDead}
use Rattle.spool_store.specs.Verdicts.{IsLiveAt, IsSober, AreLive}
use Rattle.spool_store.proofs.Reading.{one_control}
use Rattle.spool_store.proofs.Carrying.{strange_control, live_read, live_plain}
use Rattle.spool_store.proofs.Standing.{same_or_twin, one_spot}
use Rattle.spool_store.proofs.Replacing.{contains_map}

-- the bytes of a file are one text
pub some_once : {x y : List ℕ} → Some x ≡ Some y → x ≡ y
some_once e = cc

-- a sober control file is strange only under a strange one
pub only_under : (dirs : List (List ℕ)) (f : FileMap) (c : Control) → {s : Spot} → IsStrange dirs f s → IsSober dirs f s c → ((p : Parent) → c.parent ≡ Some p → p.id < s.id) → (p : Parent) × (a : Spot) × IsUnder c s p a × IsStrange dirs f a
only_under dirs f c (unread s b there none) h up = absurd (let q = sym h.read.there.there ∙ there.there in none c (subst (λ k. Says k c) (some_once q) h.read.says))
only_under dirs f c (twice s b there twin) h up = absurd (h.single twin)
only_under dirs f c (upward s d p read e le) h up = absurd (let one = one_control dirs f s d c read h.read in let lt = up p (sym (ap (λ (k : Control). k.parent) one) ∙ e) in omega arith)
only_under dirs f c (under s d p a read u k) h up =
    let one = one_control dirs f s d c read h.read in
    (p, a, record { parent = sym (ap (λ (q : Control). q.parent) one) ∙ u.parent; less = u.less; id = u.id }, k)
only_under dirs f c (bodiless s d read needs none) h up = absurd (h.body (subst NeedsBody (one_control dirs f s d c read h.read) needs) none)
only_under dirs f c (reopened s d read sf rows) h up = absurd (h.closed sf (subst IsOpen (one_control dirs f s d c read h.read) rows))

-- what is live under a parent
live_under : (dirs : List (List ℕ)) (f : FileMap) (p : Parent) → {s : Spot} {c : Control} → IsLive dirs f s c → c.parent ≡ Some p → (a : Spot) × (d : Control) × IsUnder c s p a × IsLive dirs f a d × (p.revision ≤ d.revision)
live_under dirs f p (alone s c read plain e) q = absurd (let z : Some p ≡ None = sym q ∙ e in cc z)
live_under dirs f p (child s c r a d read plain u live le) q =
    let z : r ≡ p = (let y : Some r ≡ Some p = sym u.parent ∙ q in cc) in
    (a, d, subst (λ (k : Parent). IsUnder c s k a) z u, live, subst (λ (k : Parent). k.revision ≤ d.revision) z le)

-- without a parent
pub verdict_alone : (dirs : List (List ℕ)) (f : FileMap) (s : Spot) (c : Control) → IsSober dirs f s c → c.parent ≡ None → IsLiveAt dirs f s c.revision
verdict_alone dirs f s c h e = record {
  control = c;
  live = alone s c h.read (λ k. let o = only_under dirs f c k h (λ p q. absurd (let z : Some p ≡ None = sym q ∙ e in cc z)) in let z : Some o.0 ≡ None = sym o.2.parent ∙ e in cc z) e;
  is = refl;
}

-- under a parent, whose id is less
the_less : (c : Control) (p : Parent) (n : ℕ) → c.parent ≡ Some p → p.id < n → (q : Parent) → c.parent ≡ Some q → q.id < n
the_less c p n e lt q k = let z : p ≡ q = (let y : Some p ≡ Some q = sym e ∙ k in cc) in subst (λ (r : Parent). r.id < n) z lt

-- no control file has that id
pub verdict_none : (dirs : List (List ℕ)) (f : FileMap) (s : Spot) (c : Control) (p : Parent) → IsSober dirs f s c → c.parent ≡ Some p → p.id < s.id → ((a : Spot) (b : List ℕ) → IsControl dirs f a b → a.id ≢ p.id) → IsDead dirs f s
verdict_none dirs f s c p h e lt none = record {
  bytes = h.read.bytes;
  there = h.read.there;
  plain = λ k.
      let o = only_under dirs f c k h (the_less c p s.id e lt) in
      let z : o.0 ≡ p = (let y : Some o.0 ≡ Some p = sym o.2.parent ∙ e in cc) in
      let there = strange_control o.3 in
      none o.1 there.0 there.1 (o.2.id ∙ ap (λ (q : Parent). q.id) z);
  lost = λ d live.
      let one = one_control dirs f s d c (live_read live) h.read in
      let u = live_under dirs f p live (ap (λ (q : Control). q.parent) one ∙ e) in
      none u.0 (live_read u.3).bytes (live_read u.3).there u.2.id;
}

-- a strange one is above it
pub verdict_strange : (dirs : List (List ℕ)) (f : FileMap) (s a : Spot) (c : Control) (p : Parent) → IsSober dirs f s c → c.parent ≡ Some p → p.id < s.id → a.id ≡ p.id → IsStrange dirs f a → IsStrange dirs f s
verdict_strange dirs f s a c p h e lt i k = under s c p a h.read (record { parent = e; less = lt; id = i }) k

-- the one above it isn't strange
not_under : (dirs : List (List ℕ)) (f : FileMap) (s a : Spot) (c : Control) (p : Parent) (b : List ℕ) → IsSober dirs f s c → c.parent ≡ Some p → p.id < s.id → a.id ≡ p.id → IsControl dirs f a b → (IsStrange dirs f a → ⊥) → IsStrange dirs f s → ⊥
not_under dirs f s a c p b h e lt i its plain k =
    let o = only_under dirs f c k h (the_less c p s.id e lt) in
    let z : o.0 ≡ p = (let y : Some o.0 ≡ Some p = sym o.2.parent ∙ e in cc) in
    let there = strange_control o.3 in
    ⊎_elim
    (λ (q : o.1 ≡ a). plain (subst (λ (w : Spot). IsStrange dirs f w) q o.3))
    (λ (twin : HasTwin dirs f a). plain (twice a b its twin))
    (same_or_twin dirs f a o.1 there.0 there.1 (o.2.id ∙ ap (λ (q : Parent). q.id) z ∙ sym i))

-- and is live, with at least the revision
pub verdict_live : (dirs : List (List ℕ)) (f : FileMap) (s a : Spot) (c : Control) (p : Parent) (revision : ℕ) → IsSober dirs f s c → c.parent ≡ Some p → p.id < s.id → a.id ≡ p.id → IsLiveAt dirs f a revision → p.revision ≤ revision → IsLiveAt dirs f s c.revision
verdict_live dirs f s a c p revision h e lt i above le = record {
  control = c;
  live = child s c p a above.control h.read (not_under dirs f s a c p (live_read above.live).bytes h e lt i (live_read above.live).there (live_plain above.live)) (record { parent = e; less = lt; id = i }) above.live (omega (arith, le, above.is));
  is = refl;
}

-- or with a lower one
pub verdict_lower : (dirs : List (List ℕ)) (f : FileMap) (s a : Spot) (c : Control) (p : Parent) (revision : ℕ) → IsSober dirs f s c → c.parent ≡ Some p → p.id < s.id → a.id ≡ p.id → IsLiveAt dirs f a revision → revision < p.revision → IsDead dirs f s
verdict_lower dirs f s a c p revision h e lt i above less = record {
  bytes = h.read.bytes;
  there = h.read.there;
  plain = not_under dirs f s a c p (live_read above.live).bytes h e lt i (live_read above.live).there (live_plain above.live);
  lost = λ d live.
      let one = one_control dirs f s d c (live_read live) h.read in
      let u = live_under dirs f p live (ap (λ (q : Control). q.parent) one ∙ e) in
      let its = live_read u.3 in
      let q : u.0 ≡ a = one_spot dirs f a u.0 above.control its.bytes above.live its.there (u.2.id ∙ sym i) in
      let same : u.1 ≡ above.control = one_control dirs f a u.1 above.control (subst (λ (w : Spot). IsRead dirs f w u.1) q its) (live_read above.live) in
      omega (arith, u.4, less, above.is, ap (λ (k : Control). k.revision) same);
}

-- or is dead
pub verdict_dead : (dirs : List (List ℕ)) (f : FileMap) (s a : Spot) (c : Control) (p : Parent) → IsSober dirs f s c → c.parent ≡ Some p → p.id < s.id → a.id ≡ p.id → IsDead dirs f a → IsDead dirs f s
verdict_dead dirs f s a c p h e lt i above = record {
  bytes = h.read.bytes;
  there = h.read.there;
  plain = not_under dirs f s a c p above.bytes h e lt i above.there above.plain;
  lost = λ d live.
      let one = one_control dirs f s d c (live_read live) h.read in
      let u = live_under dirs f p live (ap (λ (q : Control). q.parent) one ∙ e) in
      let q : a ≡ u.0 = one_spot dirs f u.0 a u.1 above.bytes u.3 above.there (i ∙ sym u.2.id) in
      above.lost u.1 (subst (λ (w : Spot). IsLive dirs f w u.1) (sym q) u.3);
}

-- the table of what was read, with the bodies that lie there
filled : FileMap → Stored → Stored
filled f s = record { id = s.id; dir = s.dir; control = s.control; body = unwrap_or (bytes_at f (at s.dir Df s.id)) [] }

ids_filled : (f : FileMap) (xs : List Stored) → ids (map (filled f) xs) ≡ ids xs
unfolding filled
ids_filled f [] = refl
ids_filled f (x ∷ xs) = ap (λ (q : List ℕ). x.id ∷ q) (ids_filled f xs)

held_or : (o : Option (List ℕ)) → (o ≡ None → ⊥) → o ≡ Some (unwrap_or o [])
held_or None no_none = absurd (no_none refl)
held_or (Some b) no_none = refl

filled_files : (dirs : List (List ℕ)) (f : FileMap) (s : Stored) → (k : Kind) × IsLive dirs f (spot_of k s) s.control → HasFiles dirs f (filled f s)
unfolding filled
filled_files dirs f s h = record { kind = h.0; live = h.1; body = λ needs. held_or (bytes_at f (at s.dir Df s.id)) (λ none. live_plain h.1 (bodiless (spot_of h.0 s) s.control (live_read h.1) needs none)) }

filled_read : (f : FileMap) (entries : List Stored) (s : Spot) (c : Control) → HasRead entries s c → HasRead (map (filled f) entries) s c
unfolding filled
filled_read f entries s c read = record { stored = filled f read.stored; among = contains_map (filled f) read.stored entries read.among; id = read.id; dir = read.dir; control = read.control }

pub live_stands : (dirs : List (List ℕ)) (f : FileMap) (entries : List Stored) (next : ℕ) → AreLive dirs f entries → (bodies : List Stored) × StandsFor dirs (record { entries = bodies; next = next }) f
live_stands dirs f entries next h = (
  map (filled f) entries,
  record {
    ascending = subst (λ (q : List ℕ). IsStrictlySortedBy nat_cmp q) (sym (ids_filled f entries)) h.ascending;
    each = All-map (HasFiles dirs f) (filled f) entries (All-weaker (λ s. (k : Kind) × IsLive dirs f (spot_of k s) s.control) (λ s. HasFiles dirs f (filled f s)) (filled_files dirs f) entries h.each);
    all = λ s c live. filled_read f entries s c (h.all s c live);
  },
)

-- no sf that isn't strange has an open row
pub finished_always : (dirs : List (List ℕ)) (f : FileMap) (s : Spot) (c : Control) → IsRead dirs f s c → s.kind ≡ Sf → (IsStrange dirs f s → ⊥) → IsOpen c → ⊥
finished_always dirs f s c read sf plain rows = plain (reopened s c read sf rows)
