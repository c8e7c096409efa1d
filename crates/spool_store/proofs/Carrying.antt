-- How strange and live control files of one map are so in another.
use Rattle.std.proofs.Common.{◌≡◌, ◌⊎◌, inl, ⊎_elim, ℕ, ◌≤◌, List, None, refl, sym, ◌∙◌, ap, subst, arith}
use Rattle.mail_base.specs.declared.id.Kind.TheVariants.{Sf}
use Rattle.spool_disk.specs.Disk.{FileMap, bytes_at}
use Rattle.mail_base.specs.declared.control.Control.{Control}
use Rattle.mail_base.specs.declared.control.Parent.{Parent}
use Rattle.spool_store.specs.Queue.{IsOpen, Spot, body_place, IsControl, IsRead, HasTwin, IsUnder, IsStrange, unread, twice, upward, under, bodiless, reopened, IsLive, alone, child}
use Rattle.mail_base.specs.States.{NeedsBody}
use Rattle.spool_store.specs.Alike.{AreAlike}
use Rattle.spool_store.specs.Changes.{HasLive}

-- a strange control file has bytes
pub strange_control : {dirs : List (List ℕ)} {f : FileMap} {s : Spot} → IsStrange dirs f s → (b : List ℕ) × IsControl dirs f s b
strange_control (unread s b there none) = (b, there)
strange_control (twice s b there twin) = (b, there)
strange_control (upward s c p read e le) = (read.bytes, read.there)
strange_control (under s c p above read u h) = (read.bytes, read.there)
strange_control (bodiless s c read needs none) = (read.bytes, read.there)
strange_control (reopened s c read sf rows) = (read.bytes, read.there)

-- a live control file says its control
pub live_read : {dirs : List (List ℕ)} {f : FileMap} {s : Spot} {c : Control} → IsLive dirs f s c → IsRead dirs f s c
live_read (alone s c read plain e) = read
live_read (child s c p above d read plain u h le) = read

-- a live control file isn't strange
pub live_plain : {dirs : List (List ℕ)} {f : FileMap} {s : Spot} {c : Control} → IsLive dirs f s c → IsStrange dirs f s → ⊥
live_plain (alone s c read plain e) = plain
live_plain (child s c p above d read plain u h le) = plain

-- what a control file of one map is in another: its id, its bytes and what makes it strange go with
-- it
pub record Carries (dirs : List (List ℕ)) (f g : FileMap) (R : Spot → Spot → Type 0) : Type 0 where
  pub same_id : (s t : Spot) → R s t → t.id ≡ s.id
  pub there : (s t : Spot) (b : List ℕ) → R s t → IsControl dirs f s b → IsControl dirs g t b
  pub twin : (s t : Spot) (b : List ℕ) → R s t → IsControl dirs f s b → HasTwin dirs f s → HasTwin dirs g t
  pub body : (s t : Spot) (c : Control) → R s t → IsRead dirs f s c → NeedsBody c → bytes_at f (body_place s) ≡ None → bytes_at g (body_place t) ≡ None
  pub finished : (s t : Spot) (c : Control) → R s t → IsRead dirs f s c → s.kind ≡ Sf → IsOpen c → t.kind ≡ Sf
  pub above : (s t : Spot) (c : Control) (p : Parent) (a : Spot) → R s t → IsRead dirs f s c → IsUnder c s p a → IsStrange dirs f a → (b : Spot) × R a b

-- what a control file says is carried over with its bytes
pub read_carries : (dirs : List (List ℕ)) (f g : FileMap) (R : Spot → Spot → Type 0) → Carries dirs f g R → (s t : Spot) (c : Control) → R s t → IsRead dirs f s c → IsRead dirs g t c
read_carries dirs f g R h s t c r k = record { bytes = k.bytes; there = h.there s t k.bytes r k.there; says = k.says }

under_carries : (c : Control) (p : Parent) (s t a b : Spot) → t.id ≡ s.id → b.id ≡ a.id → IsUnder c s p a → IsUnder c t p b
under_carries c p s t a b e d u = record { parent = u.parent; less = omega (arith, e, u.less); id = d ∙ u.id }

-- a strange control file is carried over as a strange one
pub strange_carries : (dirs : List (List ℕ)) (f g : FileMap) (R : Spot → Spot → Type 0) → Carries dirs f g R → {s : Spot} → IsStrange dirs f s → (t : Spot) → R s t → IsStrange dirs g t
strange_carries dirs f g R h (unread s b there none) t r = unread t b (h.there s t b r there) none
strange_carries dirs f g R h (twice s b there twin) t r = twice t b (h.there s t b r there) (h.twin s t b r there twin)
strange_carries dirs f g R h (upward s c p read e le) t r = upward t c p (read_carries dirs f g R h s t c r read) e (omega (arith, le, h.same_id s t r))
strange_carries dirs f g R h (under s c p above read u k) t r =
    let b = h.above s t c p above r read u k in
    under t c p b.0 (read_carries dirs f g R h s t c r read) (under_carries c p s t above b.0 (h.same_id s t r) (h.same_id above b.0 b.1) u) (strange_carries dirs f g R h k b.0 b.1)
strange_carries dirs f g R h (bodiless s c read needs none) t r = bodiless t c (read_carries dirs f g R h s t c r read) needs (h.body s t c r read needs none)
strange_carries dirs f g R h (reopened s c read sf rows) t r = reopened t c (read_carries dirs f g R h s t c r read) (h.finished s t c r read sf rows) rows

-- what is above a live child is carried too, or a live one with at least the child's revision
-- stands above it in the other map
pub record CarriesLive (dirs : List (List ℕ)) (f g : FileMap) (R : Spot → Spot → Type 0) : Type 0 where
  pub same_id : (s t : Spot) → R s t → t.id ≡ s.id
  pub read : (s t : Spot) (c : Control) → R s t → IsRead dirs f s c → IsRead dirs g t c
  pub plain : (s t : Spot) (c : Control) → R s t → IsLive dirs f s c → IsStrange dirs g t → ⊥
  pub above : (s t : Spot) (c : Control) (p : Parent) (a : Spot) (d : Control) → R s t → IsRead dirs f s c → IsUnder c s p a → IsLive dirs f a d → p.revision ≤ d.revision → ((b : Spot) × R a b) ⊎ HasLive dirs g p

-- a live control file is carried over as a live one
pub live_carries : (dirs : List (List ℕ)) (f g : FileMap) (R : Spot → Spot → Type 0) → CarriesLive dirs f g R → {s : Spot} {c : Control} → IsLive dirs f s c → (t : Spot) → R s t → IsLive dirs g t c
live_carries dirs f g R h (alone s c read plain e) t r = alone t c (h.read s t c r read) (h.plain s t c r (alone s c read plain e)) e
live_carries dirs f g R h (child s c p above d read plain u k le) t r =
    let not_strange = h.plain s t c r (child s c p above d read plain u k le) in
    ⊎_elim
    (λ (b : (q : Spot) × R above q). child t c p b.0 d (h.read s t c r read) not_strange (under_carries c p s t above b.0 (h.same_id s t r) (h.same_id above b.0 b.1) u) (live_carries dirs f g R h k b.0 b.1) le)
    (λ (b : HasLive dirs g p). child t c p b.above b.control (h.read s t c r read) not_strange (record { parent = u.parent; less = omega (arith, u.less, h.same_id s t r); id = b.id }) b.live b.least)
    (h.above s t c p above d r read u k le)

-- two maps that are alike: each way they carry what is kept
read_back : (dirs : List (List ℕ)) (Kept : ℕ → Type 0) (f g : FileMap) → AreAlike dirs Kept f g → (s : Spot) (c : Control) → Kept s.id → IsRead dirs g s c → IsRead dirs f s c
read_back dirs Kept f g h s c kept read = record { bytes = read.bytes; there = record { spot = read.there.spot; there = sym (h.controls s read.there.spot kept) ∙ read.there.there }; says = read.says }

-- maps that are alike are so the other way too
pub alike_back : (dirs : List (List ℕ)) (Kept : ℕ → Type 0) (f g : FileMap) → AreAlike dirs Kept f g → AreAlike dirs Kept g f
alike_back dirs Kept f g h = record {
  controls = λ s spot kept. sym (h.controls s spot kept);
  bodies = λ s c kept read needs. sym (h.bodies s c kept (read_back dirs Kept f g h s c kept read) needs);
  up = λ s c p kept read e lt. h.up s c p kept (read_back dirs Kept f g h s c kept read) e lt;
}

-- the same spot, whose id is kept
pub record IsKept (Kept : ℕ → Type 0) (s t : Spot) : Type 0 where
  pub same : t ≡ s
  pub kept : Kept s.id

-- maps that are alike have the same bytes at control files of ids that are kept
pub control_alike : (dirs : List (List ℕ)) (Kept : ℕ → Type 0) (f g : FileMap) → AreAlike dirs Kept f g → (s : Spot) (b : List ℕ) → Kept s.id → IsControl dirs f s b → IsControl dirs g s b
control_alike dirs Kept f g h s b kept there = record { spot = there.spot; there = h.controls s there.spot kept ∙ there.there }

-- control files of ids that are kept say the same in maps that are alike
pub read_alike : (dirs : List (List ℕ)) (Kept : ℕ → Type 0) (f g : FileMap) → AreAlike dirs Kept f g → (s : Spot) (c : Control) → Kept s.id → IsRead dirs f s c → IsRead dirs g s c
read_alike dirs Kept f g h s c kept read = record { bytes = read.bytes; there = control_alike dirs Kept f g h s read.bytes kept read.there; says = read.says }

alike_carries : (dirs : List (List ℕ)) (Kept : ℕ → Type 0) (f g : FileMap) → AreAlike dirs Kept f g → Carries dirs f g (IsKept Kept)
alike_carries dirs Kept f g h = record {
  same_id = λ s t r. ap (λ (q : Spot). q.id) r.same;
  there = λ s t b r there. subst (λ (q : Spot). IsControl dirs g q b) (sym r.same) (control_alike dirs Kept f g h s b r.kept there);
  twin = λ s t b r there twin. record {
    other = twin.other;
    bytes = twin.bytes;
    there = control_alike dirs Kept f g h twin.other twin.bytes (subst Kept (sym twin.id) r.kept) twin.there;
    id = twin.id ∙ sym (ap (λ (q : Spot). q.id) r.same);
    apart = λ e. twin.apart (e ∙ r.same);
  };
  body = λ s t c r read needs none. ap (λ (q : Spot). bytes_at g (body_place q)) r.same ∙ h.bodies s c r.kept read needs ∙ none;
  finished = λ s t c r read sf rows. ap (λ (q : Spot). q.kind) r.same ∙ sf;
  above = λ s t c p a r read u k. (a, record { same = refl; kept = subst Kept (sym u.id) (h.up s c p r.kept read u.parent u.less) });
}

-- in maps that are alike the same kept control files are strange
pub strange_alike : (dirs : List (List ℕ)) (Kept : ℕ → Type 0) (f g : FileMap) → AreAlike dirs Kept f g → (s : Spot) → Kept s.id → IsStrange dirs f s → IsStrange dirs g s
strange_alike dirs Kept f g h s kept k = strange_carries dirs f g (IsKept Kept) (alike_carries dirs Kept f g h) k s (record { same = refl; kept = kept })

-- and the same are live
pub live_alike : (dirs : List (List ℕ)) (Kept : ℕ → Type 0) (f g : FileMap) → AreAlike dirs Kept f g → (s : Spot) (c : Control) → Kept s.id → IsLive dirs f s c → IsLive dirs g s c
live_alike dirs Kept f g h s c kept k =
    let carries = alike_carries dirs Kept f g h in
    let back = alike_back dirs Kept f g h in
    live_carries dirs f g (IsKept Kept) (record {
      same_id = carries.same_id;
      read = read_carries dirs f g (IsKept Kept) carries;
      plain = λ s t c r live strange. live_plain live (strange_alike dirs Kept g f back s r.kept (subst (λ (q : Spot). IsStrange dirs g q) r.same strange));
      above = λ s t c p a d r read u live le. inl (a, record { same = refl; kept = subst Kept (sym u.id) (h.up s c p r.kept read u.parent u.less) });
    }) k s (record { same = refl; kept = kept })
