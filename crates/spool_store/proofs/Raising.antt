-- A live control of a greater revision in the place of one: strange and live control files stay so.
use Rattle.std.proofs.Common.{◌≡◌, ◌≢◌, ◌⊎◌, inl, inr, ⊎_elim, ℕ, ◌<◌, List, Some, refl, sym, ◌∙◌, ap, subst, arith}
use Rattle.std.proofs.lemmas.Bool.{cases_eq}
use Rattle.mail_base.specs.declared.id.Kind.TheVariants.{Df, Qf, Sf}
use Rattle.spool_disk.specs.Disk.{Place, FileMap, bytes_at}
use Rattle.mail_base.specs.declared.control.Control.{Control}
use Rattle.mail_base.specs.States.{NeedsBody}
use Rattle.qf_format.specs.Saying.{Says}
use Rattle.spool_store.specs.Queue.{Spot, spot_place, body_place, IsSpot, IsControl, IsRead, HasTwin, IsUnder, IsStrange, unread, twice, upward, under, bodiless, reopened, IsLive, alone, child}
use Rattle.qf_format.specs.Spelling.{spelled}
use Rattle.spool_store.specs.Alike.{AreAlike}
use Rattle.spool_store.specs.Settled.{IsTidy}
use Rattle.spool_store.specs.Changes.{IsRaised}
use Rattle.spool_store.proofs.Reading.{one_control, same_spot}
use Rattle.spool_store.proofs.Places.{kinds_of, ids_of, not_kind}
use Rattle.spool_store.proofs.Carrying.{Carries, strange_carries, live_carries, read_carries, live_read, live_plain, strange_alike, live_alike, alike_back}
use Rattle.spool_store.proofs.Standing.{one_live, kind_or, same_dir}

-- spots are the same or apart, where they may be control files
pub spot_or : (dirs : List (List ℕ)) (s t : Spot) → (s ≡ t) ⊎ (s ≢ t)
spot_or dirs s t = ⊎_elim
    (λ (d : s.dir ≡ t.dir). ⊎_elim
    (λ (k : s.kind ≡ t.kind). ⊎_elim
    (λ (i : s.id ≡ t.id). inl (λ j. record { dir = d j; kind = k j; id = i j }))
    (λ (i : s.id ≢ t.id). inr (λ e. i (ap (λ (r : Spot). r.id) e)))
    (cases_eq s.id t.id))
    (λ (k : s.kind ≢ t.kind). inr (λ e. k (ap (λ (r : Spot). r.kind) e)))
    (kind_or s.kind t.kind))
    (λ (d : s.dir ≢ t.dir). inr (λ e. d (ap (λ (r : Spot). r.dir) e)))
    (same_dir s.dir t.dir)

-- maps that differ at one spot alone, which has a control file in both
pub record IsBut (dirs : List (List ℕ)) (q : Spot) (f g : FileMap) : Type 0 where
  pub spot : IsSpot dirs q
  pub bytes : List ℕ
  pub there : bytes_at g (spot_place q) ≡ Some bytes
  pub others : (place : Place) → place ≢ spot_place q → bytes_at g place ≡ bytes_at f place

-- the same spot, which is another one
record IsOther (q s t : Spot) : Type 0 where
  same : t ≡ s
  apart : s ≢ q

-- at other spots a control file is as it was
pub control_but : (dirs : List (List ℕ)) (q : Spot) (f g : FileMap) → IsBut dirs q f g → (s : Spot) (b : List ℕ) → s ≢ q → IsControl dirs f s b → IsControl dirs g s b
control_but dirs q f g h s b ne there = record { spot = there.spot; there = h.others (spot_place s) (λ e. ne (same_spot s q there.spot.within h.spot.within e)) ∙ there.there }

twin_but : (dirs : List (List ℕ)) (q : Spot) (f g : FileMap) → IsBut dirs q f g → (s : Spot) → HasTwin dirs f s → HasTwin dirs g s
twin_but dirs q f g h s twin = ⊎_elim
    (λ (e : twin.other ≡ q). record { other = q; bytes = h.bytes; there = record { spot = h.spot; there = h.there }; id = ap (λ (r : Spot). r.id) (sym e) ∙ twin.id; apart = λ k. twin.apart (e ∙ k) })
    (λ (ne : twin.other ≢ q). record { other = twin.other; bytes = twin.bytes; there = control_but dirs q f g h twin.other twin.bytes ne twin.there; id = twin.id; apart = twin.apart })
    (spot_or dirs twin.other q)

-- a body lies elsewhere
pub body_but : (dirs : List (List ℕ)) (q : Spot) (f g : FileMap) → IsBut dirs q f g → (s : Spot) → bytes_at g (body_place s) ≡ bytes_at f (body_place s)
body_but dirs q f g h s = h.others (body_place s) (λ e. (not_kind q.kind h.spot.kind).0 (sym (kinds_of s.dir q.dir Df q.kind s.id q.id e)))

others_carry : (dirs : List (List ℕ)) (q : Spot) (f g : FileMap) → IsBut dirs q f g → (IsStrange dirs f q → ⊥) → Carries dirs f g (IsOther q)
others_carry dirs q f g h plain = record {
  same_id = λ s t r. ap (λ (k : Spot). k.id) r.same;
  there = λ s t b r there. subst (λ (k : Spot). IsControl dirs g k b) (sym r.same) (control_but dirs q f g h s b r.apart there);
  twin = λ s t b r there twin. subst (λ (k : Spot). HasTwin dirs g k) (sym r.same) (twin_but dirs q f g h s twin);
  body = λ s t c r read needs none. ap (λ (k : Spot). bytes_at g (body_place k)) r.same ∙ body_but dirs q f g h s ∙ none;
  finished = λ s t c r read sf rows. ap (λ (k : Spot). k.kind) r.same ∙ sf;
  above = λ s t c p a r read u k. (a, record { same = refl; apart = λ e. plain (subst (λ (w : Spot). IsStrange dirs f w) e k) });
}

pub strange_but : (dirs : List (List ℕ)) (q : Spot) (f g : FileMap) → IsBut dirs q f g → (IsStrange dirs f q → ⊥) → (s : Spot) → s ≢ q → IsStrange dirs f s → IsStrange dirs g s
strange_but dirs q f g h plain s ne k = strange_carries dirs f g (IsOther q) (others_carry dirs q f g h plain) k s (record { same = refl; apart = ne })

-- the two ways
pub but_to : (dirs : List (List ℕ)) (s : Spot) (old new : Control) (f g : FileMap) → IsRaised dirs s old new f g → IsBut dirs s f g
but_to dirs s old new f g h = record { spot = (live_read h.live).there.spot; bytes = spelled new; there = h.holds; others = h.others }

-- the map before differs at that spot alone from the one after
pub but_back : (dirs : List (List ℕ)) (s : Spot) (old new : Control) (f g : FileMap) → IsRaised dirs s old new f g → IsBut dirs s g f
but_back dirs s old new f g h = let read = live_read h.live in record { spot = read.there.spot; bytes = read.bytes; there = read.there.there; others = λ place ne. sym (h.others place ne) }

-- what it holds now
pub raised_read : (dirs : List (List ℕ)) (s : Spot) (old new : Control) (f g : FileMap) → IsRaised dirs s old new f g → IsRead dirs g s new
raised_read dirs s old new f g h = record { bytes = spelled new; there = record { spot = (live_read h.live).there.spot; there = h.holds }; says = record { valid = h.valid; text = refl } }

-- below its id nothing has changed
below_alike : (dirs : List (List ℕ)) (s : Spot) (old new : Control) (f g : FileMap) → IsRaised dirs s old new f g → AreAlike dirs (λ id. id < s.id) f g
below_alike dirs s old new f g h = record {
  controls = λ t spot lt. h.others (spot_place t) (λ e. let i : t.id ≡ s.id = ids_of t.dir s.dir t.kind s.kind t.id s.id spot.within (live_read h.live).there.spot.within e in absurd (omega (arith, i, lt)));
  bodies = λ t c lt read needs. body_but dirs s f g (but_to dirs s old new f g h) t;
  up = λ t c p lt read e less. omega (arith, lt, less);
}

-- it isn't strange now
raised_not : (dirs : List (List ℕ)) (s : Spot) (old new : Control) (f g : FileMap) → IsRaised dirs s old new f g → {t : Spot} → IsStrange dirs g t → t ≡ s → ⊥
raised_not dirs s old new f g h (unread t b there none) e =
    let read = raised_read dirs s old new f g h in
    let now : bytes_at g (spot_place s) ≡ Some b = subst (λ (k : Spot). bytes_at g (spot_place k) ≡ Some b) e there.there in
    let same : read.bytes ≡ b = let two = sym read.there.there ∙ now in cc in
    none new (subst (λ (k : List ℕ). Says k new) same read.says)
raised_not dirs s old new f g h (twice t b there twin) e =
    let its : HasTwin dirs f s = twin_but dirs s g f (but_back dirs s old new f g h) s (subst (λ (k : Spot). HasTwin dirs g k) e twin) in
    live_plain h.live (twice s (live_read h.live).bytes (live_read h.live).there its)
raised_not dirs s old new f g h (upward t c p read q le) e =
    let one : c ≡ new = one_control dirs g s c new (subst (λ (k : Spot). IsRead dirs g k c) e read) (raised_read dirs s old new f g h) in
    live_plain h.live (upward s old p (live_read h.live) (sym h.parent ∙ ap (λ (k : Control). k.parent) (sym one) ∙ q) (omega (arith, le, ap (λ (k : Spot). k.id) e)))
raised_not dirs s old new f g h (under t c p above read u k) e =
    let one : c ≡ new = one_control dirs g s c new (subst (λ (k : Spot). IsRead dirs g k c) e read) (raised_read dirs s old new f g h) in
    let i : t.id ≡ s.id = ap (λ (k : Spot). k.id) e in
    let up : IsUnder old s p above = record { parent = sym h.parent ∙ ap (λ (k : Control). k.parent) (sym one) ∙ u.parent; less = omega (arith, i, u.less); id = u.id } in
    let lt : above.id < s.id = omega (arith, up.less, u.id) in
    live_plain h.live (under s old p above (live_read h.live) up (strange_alike dirs (λ id. id < s.id) g f (alike_back dirs (λ id. id < s.id) f g (below_alike dirs s old new f g h)) above lt k))
raised_not dirs s old new f g h (bodiless t c read needs none) e =
    let one : c ≡ new = one_control dirs g s c new (subst (λ (k : Spot). IsRead dirs g k c) e read) (raised_read dirs s old new f g h) in
    live_plain h.live (bodiless s old (live_read h.live) (h.wanted (subst NeedsBody one needs)) (sym (body_but dirs s f g (but_to dirs s old new f g h) s) ∙ ap (λ (k : Spot). bytes_at g (body_place k)) (sym e) ∙ none))
raised_not dirs s old new f g h (reopened t c read sf rows) e =
    let k : Qf ≡ Sf = sym h.kind ∙ ap (λ (k : Spot). k.kind) (sym e) ∙ sf in cc

pub raised_plain : (dirs : List (List ℕ)) (s : Spot) (old new : Control) (f g : FileMap) → IsRaised dirs s old new f g → IsStrange dirs g s → ⊥
raised_plain dirs s old new f g h k = raised_not dirs s old new f g h k refl

-- the same control files are strange
pub raised_strange : (dirs : List (List ℕ)) (s : Spot) (old new : Control) (f g : FileMap) → IsRaised dirs s old new f g → (t : Spot) → IsStrange dirs f t → IsStrange dirs g t
raised_strange dirs s old new f g h t k = strange_but dirs s f g (but_to dirs s old new f g h) (live_plain h.live) t (λ e. live_plain h.live (subst (λ (w : Spot). IsStrange dirs f w) e k)) k

-- a control file that is strange after a replace was strange before
pub raised_strange_back : (dirs : List (List ℕ)) (s : Spot) (old new : Control) (f g : FileMap) → IsRaised dirs s old new f g → (t : Spot) → IsStrange dirs g t → IsStrange dirs f t
raised_strange_back dirs s old new f g h t k = strange_but dirs s g f (but_back dirs s old new f g h) (raised_plain dirs s old new f g h) t (λ e. raised_plain dirs s old new f g h (subst (λ (w : Spot). IsStrange dirs g w) e k)) k

-- it is live now
at_live : (dirs : List (List ℕ)) (s : Spot) (old new : Control) (f g : FileMap) → IsRaised dirs s old new f g → {t : Spot} {c : Control} → IsLive dirs f t c → t ≡ s → c ≡ old → IsLive dirs g s new
at_live dirs s old new f g h (alone t c read plain e) q one = alone s new (raised_read dirs s old new f g h) (raised_plain dirs s old new f g h) (h.parent ∙ ap (λ (k : Control). k.parent) (sym one) ∙ e)
at_live dirs s old new f g h (child t c p above d read plain u live le) q one =
    let i : t.id ≡ s.id = ap (λ (k : Spot). k.id) q in
    let up : IsUnder new s p above = record { parent = h.parent ∙ ap (λ (k : Control). k.parent) (sym one) ∙ u.parent; less = omega (arith, i, u.less); id = u.id } in
    child s new p above d (raised_read dirs s old new f g h) (raised_plain dirs s old new f g h) up (live_alike dirs (λ id. id < s.id) f g (below_alike dirs s old new f g h) above d (omega (arith, up.less, u.id)) live) le

-- after a replace the new control is live
pub raised_live : (dirs : List (List ℕ)) (s : Spot) (old new : Control) (f g : FileMap) → IsRaised dirs s old new f g → IsLive dirs g s new
raised_live dirs s old new f g h = at_live dirs s old new f g h h.live refl refl

-- the other live control files are live, and no others
pub others_live : (dirs : List (List ℕ)) (s : Spot) (old new : Control) (f g : FileMap) → IsRaised dirs s old new f g → (t : Spot) (c : Control) → t ≢ s → IsLive dirs f t c → IsLive dirs g t c
others_live dirs s old new f g h t c ne live =
    let carries = others_carry dirs s f g (but_to dirs s old new f g h) (live_plain h.live) in
    live_carries dirs f g (IsOther s) (record {
      same_id = carries.same_id;
      read = read_carries dirs f g (IsOther s) carries;
      plain = λ t u c r live strange. live_plain live (raised_strange_back dirs s old new f g h t (subst (λ (k : Spot). IsStrange dirs g k) r.same strange));
      above = λ t u c p a d r read up live le. ⊎_elim
          (λ (e : a ≡ s). inr (let one = one_live dirs f s a old d h.live live (ap (λ (k : Spot). k.id) e) in
          record { above = s; control = new; id = ap (λ (k : Spot). k.id) (sym e) ∙ up.id; live = raised_live dirs s old new f g h; least = omega (arith, le, h.revision, ap (λ (k : Control). k.revision) one.1) }))
          (λ (ne : a ≢ s). inl (a, record { same = refl; apart = ne }))
          (spot_or dirs a s);
    }) live t (record { same = refl; apart = ne })

-- a control file elsewhere that is live after a replace was live before
pub others_live_back : (dirs : List (List ℕ)) (next : ℕ) (s : Spot) (old new : Control) (f g : FileMap) → IsRaised dirs s old new f g → IsTidy dirs next f → (t : Spot) (c : Control) → t ≢ s → IsLive dirs g t c → IsLive dirs f t c
others_live_back dirs next s old new f g h tidy t c ne live =
    let read = live_read live in
    let there = control_but dirs s g f (but_back dirs s old new f g h) t read.bytes ne read.there in
    let whole = tidy.whole t read.bytes there (λ k. live_plain live (raised_strange dirs s old new f g h t k)) in
    let now : IsRead dirs f t c = record { bytes = read.bytes; there = there; says = read.says } in
    subst (λ (k : Control). IsLive dirs f t k) (one_control dirs f t whole.0 c (live_read whole.1) now) whole.1
