-- An opening leaves maps that stand for what the map stood for.
use Rattle.std.proofs.Common.{◌≡◌, inl, inr, ℕ, List, Some, None, refl, sym, ◌∙◌, ap, subst}
use Rattle.std.proofs.lemmas.List.Elements.{All-weaker}
use Rattle.mail_base.specs.declared.id.Kind.{Kind}
use Rattle.mail_base.specs.declared.id.Kind.TheVariants.{Df, Qf, Sf}
use Rattle.spool_store.specs.Queue.{at, IsOpen, Spot, spot_place, body_place, IsControl, IsRead, HasTwin, IsStrange, twice, IsLive}
use Rattle.spool_disk.specs.Disk.{FileMap, bytes_at}
use Rattle.mail_base.specs.declared.control.Control.{Control}
use Rattle.mail_base.specs.States.{NeedsBody}
use Rattle.spool_store.specs.Entries.{Stored, Table}
use Rattle.spool_store.specs.Settled.{spot_of, HasFiles, StandsFor}
use Rattle.spool_store.specs.Tidying.{as_kind, HasMoved, IsTidiedAt, stays, gone, moved, came, IsTidiedBody, IsTidied}
use Rattle.spool_store.proofs.Reading.{one_control}
use Rattle.spool_store.proofs.Carrying.{Carries, strange_carries, live_carries, strange_control, live_read, live_plain}
use Rattle.spool_store.proofs.Standing.{one_spot}

-- where a control file has gone: it stays, or has moved
pub data Went (dirs : List (List ℕ)) (f g : FileMap) : Spot → Spot → Type 0 where
  stayed : (s : Spot) → bytes_at g (spot_place s) ≡ bytes_at f (spot_place s) → Went dirs f g s s
  went : (s : Spot) → HasMoved dirs f g s → Went dirs f g s (as_kind Sf s)

-- a control file that went on keeps its id
pub went_id : {dirs : List (List ℕ)} {f g : FileMap} {s t : Spot} → Went dirs f g s t → t.id ≡ s.id
went_id (stayed s e) = refl
went_id (went s m) = refl

-- a control file that went on keeps its directory
pub went_dir : {dirs : List (List ℕ)} {f g : FileMap} {s t : Spot} → Went dirs f g s t → t.dir ≡ s.dir
went_dir (stayed s e) = refl
went_dir (went s m) = refl

-- the same bytes, both ways
pub went_there : {dirs : List (List ℕ)} {f g : FileMap} {s t : Spot} → Went dirs f g s t → (b : List ℕ) → IsControl dirs f s b → IsControl dirs g t b
went_there (stayed s e) b there = record { spot = there.spot; there = e ∙ there.there }
went_there (went s m) b there = record { spot = record { among = there.spot.among; kind = inr refl; within = there.spot.within }; there = m.holds ∙ there.there }

-- where a control file went, its bytes are those of the spot it came from
pub went_back : {dirs : List (List ℕ)} {f g : FileMap} {s t : Spot} → Went dirs f g s t → (b : List ℕ) → IsControl dirs g t b → IsControl dirs f s b
went_back (stayed s e) b there = record { spot = there.spot; there = sym e ∙ there.there }
went_back (went s m) b there = record { spot = (live_read m.live).there.spot; there = sym m.holds ∙ there.there }

-- a strange one stays
pub strange_stays : (dirs : List (List ℕ)) (f g : FileMap) (s : Spot) → IsTidiedAt dirs f g s → IsStrange dirs f s → bytes_at g (spot_place s) ≡ bytes_at f (spot_place s)
strange_stays dirs f g s (stays e) k = e
strange_stays dirs f g s (gone e dead) k = absurd (dead.plain k)
strange_stays dirs f g s (moved m) k = absurd (live_plain m.live k)
strange_stays dirs f g s (came sf m) k =
    let there = strange_control k in
    let q : s ≡ as_kind Qf s = one_spot dirs f (as_kind Qf s) s m.control there.0 m.live there.1 refl in
    absurd (let z : Sf ≡ Qf = sym sf ∙ ap (λ (w : Spot). w.kind) q in cc z)

strange_goes : (dirs : List (List ℕ)) (f g : FileMap) → IsTidied dirs f g → (s : Spot) → IsStrange dirs f s → Went dirs f g s s
strange_goes dirs f g h s k = stayed s (strange_stays dirs f g s (h.controls s (strange_control k).1.spot) k)

-- a live one stays, or has moved
live_goes_by : (dirs : List (List ℕ)) (f g : FileMap) (s : Spot) (c : Control) → IsTidiedAt dirs f g s → IsLive dirs f s c → (t : Spot) × Went dirs f g s t
live_goes_by dirs f g s c (stays e) live = (s, stayed s e)
live_goes_by dirs f g s c (gone e dead) live = absurd (dead.lost c live)
live_goes_by dirs f g s c (moved m) live = (as_kind Sf s, went s m)
live_goes_by dirs f g s c (came sf m) live =
    let read = live_read live in
    let q : s ≡ as_kind Qf s = one_spot dirs f (as_kind Qf s) s m.control read.bytes m.live read.there refl in
    absurd (let z : Sf ≡ Qf = sym sf ∙ ap (λ (w : Spot). w.kind) q in cc z)

-- each live control file went somewhere in a tidied map
pub live_goes : (dirs : List (List ℕ)) (f g : FileMap) → IsTidied dirs f g → (s : Spot) (c : Control) → IsLive dirs f s c → (t : Spot) × Went dirs f g s t
live_goes dirs f g h s c live = live_goes_by dirs f g s c (h.controls s (live_read live).there.spot) live

-- and each that is there came from one
origin_by : (dirs : List (List ℕ)) (f g : FileMap) (t : Spot) (b : List ℕ) → IsControl dirs g t b → IsTidiedAt dirs f g t → (s : Spot) × Went dirs f g s t
origin_by dirs f g t b there (stays e) = (t, stayed t e)
origin_by dirs f g t b there (gone e dead) = absurd (let z : Some b ≡ None = sym there.there ∙ e in cc z)
origin_by dirs f g t b there (moved m) = absurd (let z : Some b ≡ None = sym there.there ∙ m.gone in cc z)
origin_by dirs f g t b there (came sf m) = (as_kind Qf t, subst (Went dirs f g (as_kind Qf t)) (λ j. record { dir = t.dir; kind = sym sf j; id = t.id }) (went (as_kind Qf t) m))

-- each control file of a tidied map came from somewhere
pub origin : (dirs : List (List ℕ)) (f g : FileMap) → IsTidied dirs f g → (t : Spot) (b : List ℕ) → IsControl dirs g t b → (s : Spot) × Went dirs f g s t
origin dirs f g h t b there = origin_by dirs f g t b there (h.controls t there.spot)

-- two that are there came from two
went_once : (dirs : List (List ℕ)) (f g : FileMap) {s t : Spot} → Went dirs f g s t → {r u : Spot} → Went dirs f g r u → (b d : List ℕ) → IsControl dirs g t b → IsControl dirs g u d → s ≡ r → t ≡ u
went_once dirs f g (stayed s e) (stayed r k) b d there its q = q
went_once dirs f g (stayed s e) (went r m) b d there its q = absurd (let z : Some b ≡ None = sym there.there ∙ ap (λ (w : Spot). bytes_at g (spot_place w)) q ∙ m.gone in cc z)
went_once dirs f g (went s m) (stayed r k) b d there its q = absurd (let z : Some d ≡ None = sym its.there ∙ ap (λ (w : Spot). bytes_at g (spot_place w)) (sym q) ∙ m.gone in cc z)
went_once dirs f g (went s m) (went r n) b d there its q = ap (as_kind Sf) q

-- strange ones of the old map
body_none : (dirs : List (List ℕ)) (f g : FileMap) (dir : List ℕ) (id : ℕ) → IsTidiedBody dirs f g dir id → bytes_at f (at dir Df id) ≡ None → bytes_at g (at dir Df id) ≡ None
body_none dirs f g dir id (stays e) none = e ∙ none
body_none dirs f g dir id (gone e strange wanted) none = e

twin_strange : (dirs : List (List ℕ)) (f : FileMap) (s : Spot) (b : List ℕ) → IsControl dirs f s b → (twin : HasTwin dirs f s) → IsStrange dirs f twin.other
twin_strange dirs f s b there twin = twice twin.other twin.bytes twin.there (record { other = s; bytes = b; there = there; id = sym twin.id; apart = λ e. twin.apart (sym e) })

record IsStill (dirs : List (List ℕ)) (f : FileMap) (s t : Spot) : Type 0 where
  same : t ≡ s
  strange : IsStrange dirs f s

still_carries : (dirs : List (List ℕ)) (f g : FileMap) → IsTidied dirs f g → Carries dirs f g (IsStill dirs f)
still_carries dirs f g h = record {
  same_id = λ s t r. ap (λ (w : Spot). w.id) r.same;
  there = λ s t b r there. subst (λ (w : Spot). IsControl dirs g w b) (sym r.same) (went_there (strange_goes dirs f g h s r.strange) b there);
  twin = λ s t b r there twin.
      let strange = strange_control r.strange in
      let its = twin_strange dirs f s strange.0 strange.1 twin in
      record {
        other = twin.other;
        bytes = twin.bytes;
        there = went_there (strange_goes dirs f g h twin.other its) twin.bytes twin.there;
        id = twin.id ∙ sym (ap (λ (w : Spot). w.id) r.same);
        apart = λ e. twin.apart (e ∙ r.same);
      };
  body = λ s t c r read needs none. ap (λ (w : Spot). bytes_at g (body_place w)) r.same ∙ body_none dirs f g s.dir s.id (h.bodies s.dir s.id read.there.spot.among read.there.spot.within) none;
  finished = λ s t c r read sf rows. ap (λ (w : Spot). w.kind) r.same ∙ sf;
  above = λ s t c p a r read u k. (a, record { same = refl; strange = k });
}

-- strange control files are strange in a tidied map
pub tidied_strange : (dirs : List (List ℕ)) (f g : FileMap) → IsTidied dirs f g → (s : Spot) → IsStrange dirs f s → IsStrange dirs g s
tidied_strange dirs f g h s k = strange_carries dirs f g (IsStill dirs f) (still_carries dirs f g h) k s (record { same = refl; strange = k })

-- strange ones of the new map
body_back : (dirs : List (List ℕ)) (f g : FileMap) (t : Spot) (c : Control) (dir : List ℕ) (id : ℕ) → IsTidiedBody dirs f g dir id → t.id ≡ id → IsRead dirs g t c → NeedsBody c → bytes_at g (at dir Df id) ≡ bytes_at f (at dir Df id)
body_back dirs f g t c dir id (stays e) i read needs = e
body_back dirs f g t c dir id (gone e strange wanted) i read needs = absurd (wanted t c i read needs)

closed_kind : {dirs : List (List ℕ)} {f g : FileMap} {s t : Spot} → Went dirs f g s t → (c : Control) → IsRead dirs f s c → IsOpen c → t.kind ≡ Sf → s.kind ≡ Sf
closed_kind (stayed s e) c read rows sf = sf
closed_kind (went s m) c read rows sf = absurd (m.closed (subst IsOpen (one_control _ _ s c m.control read (live_read m.live)) rows))

-- what a control file says where it went, it said where it came from
pub read_back : {dirs : List (List ℕ)} {f g : FileMap} {s t : Spot} → Went dirs f g s t → (c : Control) → IsRead dirs g t c → IsRead dirs f s c
read_back r c read = record { bytes = read.bytes; there = went_back r read.bytes read.there; says = read.says }

twin_back : (dirs : List (List ℕ)) (f g : FileMap) → IsTidied dirs f g → (t s : Spot) (b : List ℕ) → Went dirs f g s t → IsControl dirs g t b → HasTwin dirs g t → HasTwin dirs f s
twin_back dirs f g h t s b r there twin =
    let o = origin dirs f g h twin.other twin.bytes twin.there in
    record {
      other = o.0;
      bytes = twin.bytes;
      there = went_back o.1 twin.bytes twin.there;
      id = sym (went_id o.1) ∙ twin.id ∙ went_id r;
      apart = λ e. twin.apart (sym (went_once dirs f g r o.1 b twin.bytes there twin.there (sym e)));
    }

came_carries : (dirs : List (List ℕ)) (f g : FileMap) → IsTidied dirs f g → Carries dirs g f (λ t s. Went dirs f g s t)
came_carries dirs f g h = record {
  same_id = λ t s r. sym (went_id r);
  there = λ t s b r there. went_back r b there;
  twin = λ t s b r there twin. twin_back dirs f g h t s b r there twin;
  body = λ t s c r read needs none.
      let spot = (went_back r read.bytes read.there).spot in
      sym (body_back dirs f g t c s.dir s.id (h.bodies s.dir s.id spot.among spot.within) (went_id r) read needs)
      ∙ ap (λ (d : List ℕ). bytes_at g (at d Df s.id)) (sym (went_dir r)) ∙ ap (λ (i : ℕ). bytes_at g (at t.dir Df i)) (sym (went_id r)) ∙ none;
  finished = λ t s c r read sf rows. closed_kind r c (read_back r c read) rows sf;
  above = λ t s c p a r read u k. let there = strange_control k in origin dirs f g h a there.0 there.1;
}

-- a control file that is strange in a tidied map was strange where it came from
pub tidied_strange_back : (dirs : List (List ℕ)) (f g : FileMap) → IsTidied dirs f g → (t s : Spot) → Went dirs f g s t → IsStrange dirs g t → IsStrange dirs f s
tidied_strange_back dirs f g h t s r k = strange_carries dirs g f (λ t s. Went dirs f g s t) (came_carries dirs f g h) k s r

-- a strange control file stays at its spot
pub strange_went : {dirs : List (List ℕ)} {f g : FileMap} {s t : Spot} → Went dirs f g s t → IsStrange dirs f s → s ≡ t
strange_went (stayed s e) k = refl
strange_went (went s m) k = absurd (live_plain m.live k)

-- live ones
pub tidied_live : (dirs : List (List ℕ)) (f g : FileMap) → IsTidied dirs f g → (s t : Spot) (c : Control) → Went dirs f g s t → IsLive dirs f s c → IsLive dirs g t c
tidied_live dirs f g h s t c r live = live_carries dirs f g (Went dirs f g) (record {
  same_id = λ s t r. went_id r;
  read = λ s t c r read. record { bytes = read.bytes; there = went_there r read.bytes read.there; says = read.says };
  plain = λ s t c r live strange. live_plain live (tidied_strange_back dirs f g h t s r strange);
  above = λ s t c p a d r read u live le. inl (live_goes dirs f g h a d live);
}) live t r

-- a control file that is live in a tidied map was live where it came from
pub tidied_live_back : (dirs : List (List ℕ)) (f g : FileMap) → IsTidied dirs f g → (t s : Spot) (c : Control) → Went dirs f g s t → IsLive dirs g t c → IsLive dirs f s c
tidied_live_back dirs f g h t s c r live = live_carries dirs g f (λ t s. Went dirs f g s t) (record {
  same_id = λ t s r. sym (went_id r);
  read = λ t s c r read. read_back r c read;
  plain = λ t s c r live strange. live_plain live (subst (λ (w : Spot). IsStrange dirs g w) (strange_went r strange) (tidied_strange dirs f g h s strange));
  above = λ t s c p a d r read u live le. inl (origin dirs f g h a (live_read live).bytes (live_read live).there);
}) live s r

-- the entries of a map
each_by : (dirs : List (List ℕ)) (f g : FileMap) → IsTidied dirs f g → (e : Stored) (kind : Kind) (t : Spot) → Went dirs f g (spot_of kind e) t → IsLive dirs g t e.control → (NeedsBody e.control → bytes_at f (at e.dir Df e.id) ≡ Some e.body) → HasFiles dirs g e
each_by dirs f g h e kind t r live holds =
    let d : t.dir ≡ e.dir = went_dir r in
    let i : t.id ≡ e.id = went_id r in
    let spot = (went_back r (live_read live).bytes (live_read live).there).spot in
    record {
      kind = t.kind;
      live = subst (λ (w : Spot). IsLive dirs g w e.control) (λ j. record { dir = d j; kind = t.kind; id = i j }) live;
      body = λ needs. body_back dirs f g t e.control e.dir e.id (h.bodies e.dir e.id spot.among spot.within) i (live_read live) needs ∙ holds needs;
    }

-- a tidied map stands for the tables that the map stood for
pub tidied_stands : (dirs : List (List ℕ)) (table : Table) (f g : FileMap) → IsTidied dirs f g → StandsFor dirs table f → StandsFor dirs table g
tidied_stands dirs table f g h stands = record {
  ascending = stands.ascending;
  each = All-weaker (HasFiles dirs f) (HasFiles dirs g) (λ e has.
      let goes = live_goes dirs f g h (spot_of has.kind e) e.control has.live in
      each_by dirs f g h e has.kind goes.0 goes.1 (tidied_live dirs f g h (spot_of has.kind e) goes.0 e.control goes.1 has.live) has.body) table.entries stands.each;
  all = λ t c live.
      let o = origin dirs f g h t (live_read live).bytes (live_read live).there in
      let read = stands.all o.0 c (tidied_live_back dirs f g h t o.0 c o.1 live) in
      record { stored = read.stored; among = read.among; id = read.id ∙ sym (went_id o.1); dir = read.dir ∙ sym (went_dir o.1); control = read.control };
}
