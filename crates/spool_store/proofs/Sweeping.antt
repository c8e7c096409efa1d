-- Each step of an opening leaves a tidied map, and a tidied map of a tidy one is tidy.
use Rattle.std.proofs.Common.{◌≡◌, ◌≢◌, ◌⊎◌, inl, inr, ⊎_elim, ℕ, ◌<◌, List, Some, None, refl, sym, ◌∙◌, ap, subst, Contains}
use Rattle.mail_base.specs.declared.id.Kind.{Kind}
use Rattle.mail_base.specs.declared.id.Kind.TheVariants.{Df, Qf, Tf, Sf}
use Rattle.spool_store.specs.Queue.{at, Spot, spot_place, body_place, IsSpot, IsControl, IsRead, IsStrange, reopened, IsLive}
use Rattle.mail_base.specs.Limits.{IsId}
use Rattle.spool_disk.specs.Disk.{Place, FileMap, bytes_at, IsSame, HasRemoved}
use Rattle.mail_base.specs.declared.control.Control.{Control}
use Rattle.mail_base.specs.States.{NeedsBody}
use Rattle.spool_store.specs.Entries.{Table}
use Rattle.spool_store.specs.Settled.{StandsFor, IsTidy, IsNamed, in_name, as_parent, IsSettled}
use Rattle.spool_store.specs.Tidying.{as_kind, IsDead, HasMoved, IsTidiedAt, stays, gone, moved, came, IsTidiedBody, IsTidied, IsMove, IsSwept, IsClean, HasOwner, of_strange, of_queued, of_finished}
use Rattle.spool_store.proofs.Reading.{same_spot, one_control}
use Rattle.spool_store.proofs.Places.{kinds_of, ids_of, not_kind}
use Rattle.spool_store.proofs.Carrying.{live_read, live_plain, strange_control}
use Rattle.spool_store.proofs.Standing.{one_spot}
use Rattle.spool_store.proofs.Raising.{spot_or}
use Rattle.spool_store.proofs.Replacing.{place_or}
use Rattle.spool_store.proofs.Tidying.{went_id, went_back, read_back, origin, strange_went, strange_stays, tidied_strange, tidied_strange_back, tidied_live, tidied_stands}

-- at first
pub tidied_none : (dirs : List (List ℕ)) (f : FileMap) → IsTidied dirs f f
tidied_none dirs f = record { controls = λ s spot. stays refl; bodies = λ dir id among within. IsTidiedBody.stays refl; drafts = λ dir id among within. inl refl; others = λ place foreign. refl }

-- a step that touches no control file: what is at spots and bodies
spot_same : (dirs : List (List ℕ)) (f g h : FileMap) (s : Spot) → ((t : Spot) → IsSpot dirs t → bytes_at h (spot_place t) ≡ bytes_at g (spot_place t)) → IsSpot dirs s → IsTidiedAt dirs f g s → IsTidiedAt dirs f h s
spot_same dirs f g h s same spot (stays e) = stays (same s spot ∙ e)
spot_same dirs f g h s same spot (gone e dead) = gone (same s spot ∙ e) dead
spot_same dirs f g h s same spot (moved m) =
    let its = (live_read m.live).there.spot in
    moved (record { kind = m.kind; control = m.control; live = m.live; closed = m.closed; gone = same s spot ∙ m.gone; holds = same (as_kind Sf s) (record { among = its.among; kind = inr refl; within = its.within }) ∙ m.holds })
spot_same dirs f g h s same spot (came sf m) =
    let its = (live_read m.live).there.spot in
    came sf (record { kind = m.kind; control = m.control; live = m.live; closed = m.closed; gone = same (as_kind Qf s) its ∙ m.gone; holds = same (as_kind Sf s) (record { among = its.among; kind = inr refl; within = its.within }) ∙ m.holds })

body_same : (dirs : List (List ℕ)) (f g h : FileMap) (dir : List ℕ) (id : ℕ) → bytes_at h (at dir Df id) ≡ bytes_at g (at dir Df id) → ((t : Spot) (b : List ℕ) → t.id ≡ id → IsControl dirs h t b → (s : Spot) × IsControl dirs g s b × (s.id ≡ id)) → IsTidiedBody dirs f g dir id → IsTidiedBody dirs f h dir id
body_same dirs f g h dir id same back (IsTidiedBody.stays e) = IsTidiedBody.stays (same ∙ e)
body_same dirs f g h dir id same back (IsTidiedBody.gone e strange wanted) = IsTidiedBody.gone (same ∙ e) strange (λ t c i read needs.
    let was = back t read.bytes i read.there in
    wanted was.0 c was.2 (record { bytes = read.bytes; there = was.1; says = read.says }) needs)

-- nothing has changed
pub tidied_unchanged : (dirs : List (List ℕ)) (f g h : FileMap) → IsSame g h → IsTidied dirs f g → IsTidied dirs f h
tidied_unchanged dirs f g h same tidied = record {
  controls = λ s spot. spot_same dirs f g h s (λ t q. same (spot_place t)) spot (tidied.controls s spot);
  bodies = λ d i m w. body_same dirs f g h d i (same (at d Df i)) (λ t b q there. (t, record { spot = there.spot; there = sym (same (spot_place t)) ∙ there.there }, q)) (tidied.bodies d i m w);
  drafts = λ d i m w. ⊎_elim (λ (e : bytes_at g (at d Tf i) ≡ bytes_at f (at d Tf i)). inl (same (at d Tf i) ∙ e)) (λ (e : bytes_at g (at d Tf i) ≡ None). inr (same (at d Tf i) ∙ e)) (tidied.drafts d i m w);
  others = λ place foreign. same place ∙ tidied.others place foreign;
}

-- a draft goes
pub drop_draft : (dirs : List (List ℕ)) (f g h : FileMap) (dir : List ℕ) (id : ℕ) → Contains dirs dir → IsId id → IsTidied dirs f g → HasRemoved (at dir Tf id) g h → IsTidied dirs f h
drop_draft dirs f g h dir id among within tidied r =
    let same = λ (t : Spot) (spot : IsSpot dirs t). r.others (spot_place t) (λ e. (not_kind t.kind spot.kind).1 (kinds_of t.dir dir t.kind Tf t.id id e)) in
    record {
      controls = λ s spot. spot_same dirs f g h s same spot (tidied.controls s spot);
      bodies = λ d i m w. body_same dirs f g h d i (r.others (at d Df i) (λ e. let z : Df ≡ Tf = kinds_of d dir Df Tf i id e in cc z)) (λ t b q there. (t, record { spot = there.spot; there = sym (same t there.spot) ∙ there.there }, q)) (tidied.bodies d i m w);
      drafts = λ d i m w. ⊎_elim
          (λ (e : at d Tf i ≡ at dir Tf id). inr (ap (bytes_at h) e ∙ r.gone))
          (λ (ne : at d Tf i ≢ at dir Tf id). ⊎_elim (λ (k : bytes_at g (at d Tf i) ≡ bytes_at f (at d Tf i)). inl (r.others (at d Tf i) ne ∙ k)) (λ (k : bytes_at g (at d Tf i) ≡ None). inr (r.others (at d Tf i) ne ∙ k)) (tidied.drafts d i m w))
          (place_or (at d Tf i) (at dir Tf id));
      others = λ place foreign. r.others place (foreign dir Tf id among within) ∙ tidied.others place foreign;
    }

-- a body goes that no strange file's id has, and that no control file which is still there wants
pub drop_body : (dirs : List (List ℕ)) (f g h : FileMap) (dir : List ℕ) (id : ℕ) → Contains dirs dir → IsId id → ((s : Spot) → s.id ≡ id → IsStrange dirs f s → ⊥) → ((s : Spot) (c : Control) → s.id ≡ id → IsRead dirs g s c → NeedsBody c → ⊥) → IsTidied dirs f g → HasRemoved (at dir Df id) g h → IsTidied dirs f h
drop_body dirs f g h dir id among within strange wanted tidied r =
    let same = λ (t : Spot) (spot : IsSpot dirs t). r.others (spot_place t) (λ e. (not_kind t.kind spot.kind).0 (kinds_of t.dir dir t.kind Df t.id id e)) in
    let back = λ (t : Spot) (b : List ℕ) (there : IsControl dirs h t b). let was : IsControl dirs g t b = record { spot = there.spot; there = sym (same t there.spot) ∙ there.there } in was in
    record {
      controls = λ s spot. spot_same dirs f g h s same spot (tidied.controls s spot);
      bodies = λ d i m w. ⊎_elim
          (λ (e : at d Df i ≡ at dir Df id).
          let j : i ≡ id = ids_of d dir Df Df i id w within e in
          IsTidiedBody.gone (ap (bytes_at h) e ∙ r.gone) (λ s k. strange s (k ∙ j)) (λ s c k read needs. wanted s c (k ∙ j) (record { bytes = read.bytes; there = back s read.bytes read.there; says = read.says }) needs))
          (λ (ne : at d Df i ≢ at dir Df id). body_same dirs f g h d i (r.others (at d Df i) ne) (λ t b q there. (t, back t b there, q)) (tidied.bodies d i m w))
          (place_or (at d Df i) (at dir Df id));
      drafts = λ d i m w. let k = r.others (at d Tf i) (λ e. let z : Tf ≡ Df = kinds_of d dir Tf Df i id e in cc z) in ⊎_elim (λ (e : bytes_at g (at d Tf i) ≡ bytes_at f (at d Tf i)). inl (k ∙ e)) (λ (e : bytes_at g (at d Tf i) ≡ None). inr (k ∙ e)) (tidied.drafts d i m w);
      others = λ place foreign. r.others place (foreign dir Df id among within) ∙ tidied.others place foreign;
    }

-- a dead control file goes
pub not_of_live : (dirs : List (List ℕ)) (f : FileMap) (s t : Spot) (c : Control) → IsDead dirs f s → IsLive dirs f t c → t.id ≡ s.id → ⊥
not_of_live dirs f s t c dead live i = let q : s ≡ t = one_spot dirs f t s c dead.bytes live dead.there (sym i) in dead.lost c (subst (λ (w : Spot). IsLive dirs f w c) (sym q) live)

apart_at : (dirs : List (List ℕ)) (s t : Spot) → IsSpot dirs s → IsSpot dirs t → t ≢ s → spot_place t ≢ spot_place s
apart_at dirs s t p q ne = λ e. ne (same_spot t s q.within p.within e)

drop_at : (dirs : List (List ℕ)) (f g h : FileMap) (s : Spot) → IsDead dirs f s → HasRemoved (spot_place s) g h → (t : Spot) → IsSpot dirs t → t ≢ s → IsTidiedAt dirs f g t → IsTidiedAt dirs f h t
drop_at dirs f g h s dead r t spot ne (stays e) = stays (r.others (spot_place t) (apart_at dirs s t dead.there.spot spot ne) ∙ e)
drop_at dirs f g h s dead r t spot ne (gone e d) = gone (r.others (spot_place t) (apart_at dirs s t dead.there.spot spot ne) ∙ e) d
drop_at dirs f g h s dead r t spot ne (moved m) =
    let sf : IsSpot dirs (as_kind Sf t) = record { among = spot.among; kind = inr refl; within = spot.within } in
    moved (record {
      kind = m.kind;
      control = m.control;
      live = m.live;
      closed = m.closed;
      gone = r.others (spot_place t) (apart_at dirs s t dead.there.spot spot ne) ∙ m.gone;
      holds = r.others (at t.dir Sf t.id) (apart_at dirs s (as_kind Sf t) dead.there.spot sf (λ e. not_of_live dirs f s t m.control dead m.live (ap (λ (w : Spot). w.id) e))) ∙ m.holds;
    })
drop_at dirs f g h s dead r t spot ne (came k m) =
    let sf : IsSpot dirs (as_kind Sf t) = record { among = spot.among; kind = inr refl; within = spot.within } in
    let qf : IsSpot dirs (as_kind Qf t) = record { among = spot.among; kind = inl refl; within = spot.within } in
    came k (record {
      kind = m.kind;
      control = m.control;
      live = m.live;
      closed = m.closed;
      gone = r.others (at t.dir Qf t.id) (apart_at dirs s (as_kind Qf t) dead.there.spot qf (λ e. not_of_live dirs f s (as_kind Qf t) m.control dead m.live (ap (λ (w : Spot). w.id) e))) ∙ m.gone;
      holds = r.others (at t.dir Sf t.id) (apart_at dirs s (as_kind Sf t) dead.there.spot sf (λ e. not_of_live dirs f s (as_kind Qf t) m.control dead m.live (ap (λ (w : Spot). w.id) e))) ∙ m.holds;
    })

still_there : (dirs : List (List ℕ)) (g h : FileMap) (s : Spot) → IsSpot dirs s → HasRemoved (spot_place s) g h → (t : Spot) (b : List ℕ) → IsControl dirs h t b → IsControl dirs g t b
still_there dirs g h s spot r t b there = ⊎_elim
    (λ (e : t ≡ s). absurd (let z : Some b ≡ None = sym there.there ∙ ap (λ (w : Spot). bytes_at h (spot_place w)) e ∙ r.gone in cc z))
    (λ (ne : t ≢ s). record { spot = there.spot; there = sym (r.others (spot_place t) (apart_at dirs s t spot there.spot ne)) ∙ there.there })
    (spot_or dirs t s)

-- a tidied map without a dead control file is tidied
pub drop_control : (dirs : List (List ℕ)) (f g h : FileMap) (s : Spot) → IsDead dirs f s → IsTidied dirs f g → HasRemoved (spot_place s) g h → IsTidied dirs f h
drop_control dirs f g h s dead tidied r =
    let its = dead.there.spot in
    record {
      controls = λ t spot. ⊎_elim
          (λ (e : t ≡ s). gone (ap (λ (w : Spot). bytes_at h (spot_place w)) e ∙ r.gone) (subst (IsDead dirs f) (sym e) dead))
          (λ (ne : t ≢ s). drop_at dirs f g h s dead r t spot ne (tidied.controls t spot))
          (spot_or dirs t s);
      bodies = λ d i m w. body_same dirs f g h d i (r.others (at d Df i) (λ e. (not_kind s.kind its.kind).0 (sym (kinds_of d s.dir Df s.kind i s.id e)))) (λ t b q there. (t, still_there dirs g h s its r t b there, q)) (tidied.bodies d i m w);
      drafts = λ d i m w. let k = r.others (at d Tf i) (λ e. (not_kind s.kind its.kind).1 (sym (kinds_of d s.dir Tf s.kind i s.id e))) in ⊎_elim (λ (e : bytes_at g (at d Tf i) ≡ bytes_at f (at d Tf i)). inl (k ∙ e)) (λ (e : bytes_at g (at d Tf i) ≡ None). inr (k ∙ e)) (tidied.drafts d i m w);
      others = λ place foreign. r.others place (foreign s.dir s.kind s.id its.among its.within) ∙ tidied.others place foreign;
    }

-- a live qf none of whose rows is open takes its other name
there_stays : (dirs : List (List ℕ)) (f g : FileMap) (s : Spot) (b : List ℕ) → s.kind ≡ Qf → IsControl dirs g s b → IsTidiedAt dirs f g s → bytes_at g (spot_place s) ≡ bytes_at f (spot_place s)
there_stays dirs f g s b qf there (stays e) = e
there_stays dirs f g s b qf there (gone e dead) = absurd (let z : Some b ≡ None = sym there.there ∙ e in cc z)
there_stays dirs f g s b qf there (moved m) = absurd (let z : Some b ≡ None = sym there.there ∙ m.gone in cc z)
there_stays dirs f g s b qf there (came sf m) = absurd (let z : Qf ≡ Sf = sym qf ∙ sf in cc z)

-- the spot of the finished control file of an id is one of the directories'
pub sf_spot : (dirs : List (List ℕ)) (s : Spot) → IsSpot dirs s → IsSpot dirs (as_kind Sf s)
sf_spot dirs s spot = record { among = spot.among; kind = inr refl; within = spot.within }

-- a move to the finished name changes nothing at other spots
pub elsewhere : (dirs : List (List ℕ)) (f g h : FileMap) (s : Spot) (c : Control) → IsMove dirs f g h s c → (t : Spot) → IsSpot dirs t → t ≢ s → t ≢ as_kind Sf s → bytes_at h (spot_place t) ≡ bytes_at g (spot_place t)
elsewhere dirs f g h s c m t spot ne nor = m.renamed.others (spot_place t) (apart_at dirs s t m.there.spot spot ne) (apart_at dirs (as_kind Sf s) t (sf_spot dirs s m.there.spot) spot nor)

qf_sf : Qf ≢ Sf
qf_sf e = cc e

moved_now : (dirs : List (List ℕ)) (f g h : FileMap) (s : Spot) (c : Control) → IsMove dirs f g h s c → IsTidied dirs f g → HasMoved dirs f h s
moved_now dirs f g h s c m tidied = record { kind = m.kind; control = c; live = m.live; closed = m.closed; gone = m.renamed.gone; holds = m.renamed.holds ∙ there_stays dirs f g s m.bytes m.kind m.there (tidied.controls s m.there.spot) }

move_at : (dirs : List (List ℕ)) (f g h : FileMap) (s : Spot) (c : Control) → IsMove dirs f g h s c → (t : Spot) → IsSpot dirs t → t ≢ s → t ≢ as_kind Sf s → IsTidiedAt dirs f g t → IsTidiedAt dirs f h t
move_at dirs f g h s c m t spot ne nor (stays e) = stays (elsewhere dirs f g h s c m t spot ne nor ∙ e)
move_at dirs f g h s c m t spot ne nor (gone e dead) = gone (elsewhere dirs f g h s c m t spot ne nor ∙ e) dead
move_at dirs f g h s c m t spot ne nor (moved n) = moved (record {
  kind = n.kind;
  control = n.control;
  live = n.live;
  closed = n.closed;
  gone = elsewhere dirs f g h s c m t spot ne nor ∙ n.gone;
  holds = elsewhere dirs f g h s c m (as_kind Sf t) (sf_spot dirs t spot) (λ e. qf_sf (sym m.kind ∙ ap (λ (w : Spot). w.kind) (sym e))) (λ e. ne (λ j. record { dir = (e j).dir; kind = (n.kind ∙ sym m.kind) j; id = (e j).id })) ∙ n.holds;
})
move_at dirs f g h s c m t spot ne nor (came sf n) =
    let qf : IsSpot dirs (as_kind Qf t) = record { among = spot.among; kind = inl refl; within = spot.within } in
    came sf (record {
      kind = n.kind;
      control = n.control;
      live = n.live;
      closed = n.closed;
      gone = elsewhere dirs f g h s c m (as_kind Qf t) qf (λ e. nor (λ j. record { dir = (e j).dir; kind = sf j; id = (e j).id })) (λ e. qf_sf (ap (λ (w : Spot). w.kind) e)) ∙ n.gone;
      holds = elsewhere dirs f g h s c m (as_kind Sf t) (sf_spot dirs t spot) (λ e. qf_sf (sym m.kind ∙ ap (λ (w : Spot). w.kind) (sym e))) (λ e. nor (λ j. record { dir = (e j).dir; kind = sf j; id = (e j).id })) ∙ n.holds;
    })

move_back : (dirs : List (List ℕ)) (f g h : FileMap) (s : Spot) (c : Control) → IsMove dirs f g h s c → (t : Spot) (b : List ℕ) → IsControl dirs h t b → (r : Spot) × IsControl dirs g r b × (r.id ≡ t.id)
move_back dirs f g h s c m t b there = ⊎_elim
    (λ (e : t ≡ s). absurd (let z : Some b ≡ None = sym there.there ∙ ap (λ (w : Spot). bytes_at h (spot_place w)) e ∙ m.renamed.gone in cc z))
    (λ (ne : t ≢ s). ⊎_elim
    (λ (e : t ≡ as_kind Sf s). (s, record { spot = m.there.spot; there = sym m.renamed.holds ∙ ap (λ (w : Spot). bytes_at h (spot_place w)) (sym e) ∙ there.there }, ap (λ (w : Spot). w.id) (sym e)))
    (λ (nor : t ≢ as_kind Sf s). (t, record { spot = there.spot; there = sym (elsewhere dirs f g h s c m t there.spot ne nor) ∙ there.there }, refl))
    (spot_or dirs t (as_kind Sf s)))
    (spot_or dirs t s)

-- a tidied map in which a live control file moved to its finished name is tidied
pub move_live : (dirs : List (List ℕ)) (f g h : FileMap) (s : Spot) (c : Control) → IsMove dirs f g h s c → IsTidied dirs f g → IsTidied dirs f h
move_live dirs f g h s c m tidied =
    let its = m.there.spot in
    let away = λ (d : List ℕ) (k : Kind) (i : ℕ) (df : s.kind ≢ k) (sf : Sf ≢ k). m.renamed.others (at d k i) (λ e. df (sym (kinds_of d s.dir k s.kind i s.id e))) (λ e. sf (sym (kinds_of d s.dir k Sf i s.id e))) in
    record {
      controls = λ t spot. ⊎_elim
          (λ (e : t ≡ s). subst (IsTidiedAt dirs f h) (sym e) (moved (moved_now dirs f g h s c m tidied)))
          (λ (ne : t ≢ s). ⊎_elim
          (λ (e : t ≡ as_kind Sf s).
          let back : s ≡ as_kind Qf (as_kind Sf s) = λ j. record { dir = s.dir; kind = m.kind j; id = s.id } in
          subst (IsTidiedAt dirs f h) (sym e) (came refl (subst (HasMoved dirs f h) back (moved_now dirs f g h s c m tidied))))
          (λ (nor : t ≢ as_kind Sf s). move_at dirs f g h s c m t spot ne nor (tidied.controls t spot))
          (spot_or dirs t (as_kind Sf s)))
          (spot_or dirs t s);
      bodies = λ d i n w. body_same dirs f g h d i (away d Df i (not_kind s.kind its.kind).0 (λ z. cc z)) (λ t b q there. let r = move_back dirs f g h s c m t b there in (r.0, r.1, r.2 ∙ q)) (tidied.bodies d i n w);
      drafts = λ d i n w. let k = away d Tf i (not_kind s.kind its.kind).1 (λ z. cc z) in ⊎_elim (λ (e : bytes_at g (at d Tf i) ≡ bytes_at f (at d Tf i)). inl (k ∙ e)) (λ (e : bytes_at g (at d Tf i) ≡ None). inr (k ∙ e)) (tidied.drafts d i n w);
      others = λ place foreign. m.renamed.others place (foreign s.dir s.kind s.id its.among its.within) (foreign s.dir Sf s.id its.among its.within) ∙ tidied.others place foreign;
    }

-- a tidied map of a tidy one is tidy (finish and openings of settled maps)
named_body : (dirs : List (List ℕ)) (f g : FileMap) (dir : List ℕ) (id : ℕ) (bytes : List ℕ) → Contains dirs dir → IsId id → bytes_at g (at dir Df id) ≡ Some bytes → IsTidiedBody dirs f g dir id → IsNamed dirs f id
named_body dirs f g dir id bytes among within there (IsTidiedBody.stays e) = in_name dir Df bytes among within (sym e ∙ there)
named_body dirs f g dir id bytes among within there (IsTidiedBody.gone e strange wanted) = absurd (let z : Some bytes ≡ None = sym there ∙ e in cc z)

named_tidied : (dirs : List (List ℕ)) (f g : FileMap) → IsTidied dirs f g → (id : ℕ) → IsNamed dirs g id → IsNamed dirs f id
named_tidied dirs f g h id (as_parent t c p read e i) = let o = origin dirs f g h t read.bytes read.there in as_parent o.0 c p (read_back o.1 c read) e i
named_tidied dirs f g h id (in_name dir Qf bytes among within there) =
    let o = origin dirs f g h (record { dir = dir; kind = Qf; id = id }) bytes (record { spot = record { among = among; kind = inl refl; within = within }; there = there }) in
    let was = went_back o.1 bytes (record { spot = record { among = among; kind = inl refl; within = within }; there = there }) in
    subst (IsNamed dirs f) (sym (went_id o.1)) (in_name o.0.dir o.0.kind bytes was.spot.among was.spot.within was.there)
named_tidied dirs f g h id (in_name dir Sf bytes among within there) =
    let o = origin dirs f g h (record { dir = dir; kind = Sf; id = id }) bytes (record { spot = record { among = among; kind = inr refl; within = within }; there = there }) in
    let was = went_back o.1 bytes (record { spot = record { among = among; kind = inr refl; within = within }; there = there }) in
    subst (IsNamed dirs f) (sym (went_id o.1)) (in_name o.0.dir o.0.kind bytes was.spot.among was.spot.within was.there)
named_tidied dirs f g h id (in_name dir Tf bytes among within there) = ⊎_elim
    (λ (e : bytes_at g (at dir Tf id) ≡ bytes_at f (at dir Tf id)). in_name dir Tf bytes among within (sym e ∙ there))
    (λ (e : bytes_at g (at dir Tf id) ≡ None). absurd (let z : Some bytes ≡ None = sym there ∙ e in cc z))
    (h.drafts dir id among within)
named_tidied dirs f g h id (in_name dir Df bytes among within there) = named_body dirs f g dir id bytes among within there (h.bodies dir id among within)

-- a tidied map of a tidy one is tidy
pub tidied_tidy : (dirs : List (List ℕ)) (next : ℕ) (f g : FileMap) → IsTidied dirs f g → IsTidy dirs next f → IsTidy dirs next g
tidied_tidy dirs next f g h tidy = record {
  whole = λ t b there plain.
      let o = origin dirs f g h t b there in
      let w = tidy.whole o.0 b (went_back o.1 b there) (λ k. plain (subst (λ (q : Spot). IsStrange dirs g q) (strange_went o.1 k) (tidied_strange dirs f g h o.0 k))) in
      (w.0, tidied_live dirs f g h o.0 t w.0 o.1 w.1);
  fresh = λ id named. tidy.fresh id (named_tidied dirs f g h id named);
  drafts = λ dir id among within. ⊎_elim (λ (e : bytes_at g (at dir Tf id) ≡ bytes_at f (at dir Tf id)). e ∙ tidy.drafts dir id among within) (λ (e : bytes_at g (at dir Tf id) ≡ None). e) (h.drafts dir id among within);
}

pub tidied_settled : (dirs : List (List ℕ)) (table : Table) (f g : FileMap) → IsTidied dirs f g → IsSettled dirs table f → IsSettled dirs table g
tidied_settled dirs table f g h settled = record { stands = tidied_stands dirs table f g h settled.stands; tidy = tidied_tidy dirs table.next f g h settled.tidy }

-- strange files and every body of their ids stay
body_stays : (dirs : List (List ℕ)) (f g : FileMap) (s : Spot) (dir : List ℕ) (id : ℕ) → s.id ≡ id → IsStrange dirs f s → IsTidiedBody dirs f g dir id → bytes_at g (at dir Df id) ≡ bytes_at f (at dir Df id)
body_stays dirs f g s dir id e k (IsTidiedBody.stays q) = q
body_stays dirs f g s dir id e k (IsTidiedBody.gone q strange wanted) = absurd (strange s e k)

-- a tidied map has the strange control files and the bodies of their ids as before
pub strange_keeps : (dirs : List (List ℕ)) (f g : FileMap) → IsTidied dirs f g → (s : Spot) → IsStrange dirs f s → (bytes_at g (spot_place s) ≡ bytes_at f (spot_place s)) × ((dir : List ℕ) → Contains dirs dir → bytes_at g (at dir Df s.id) ≡ bytes_at f (at dir Df s.id))
strange_keeps dirs f g h s k =
    let there = strange_control k in
    (strange_stays dirs f g s (h.controls s there.1.spot) k, λ dir among. body_stays dirs f g s dir s.id refl k (h.bodies dir s.id among there.1.spot.within))

-- a control file that is strange in a tidied map was strange at this spot
pub tidied_same : (dirs : List (List ℕ)) (f g : FileMap) → IsTidied dirs f g → (s : Spot) → IsStrange dirs g s → IsStrange dirs f s
tidied_same dirs f g h s k =
    let there = strange_control k in
    let o = origin dirs f g h s there.0 there.1 in
    let was = tidied_strange_back dirs f g h s o.0 o.1 k in
    subst (λ (q : Spot). IsStrange dirs f q) (strange_went o.1 was) was

-- an opening that has ended
pub swept_tidy : (dirs : List (List ℕ)) (next : ℕ) (f g : FileMap) → IsTidied dirs f g → ((id : ℕ) → IsNamed dirs f id → id < next) → IsSwept dirs g → IsTidy dirs next g
swept_tidy dirs next f g h fresh swept = record {
  whole = λ t b there plain. ⊎_elim (λ (k : IsStrange dirs g t). absurd (plain k)) (λ (w : (c : Control) × IsLive dirs g t c). w) (swept.known t b there);
  fresh = λ id named. fresh id (named_tidied dirs f g h id named);
  drafts = swept.drafts;
}

-- what an opening that has ended leaves is settled, under a first free id above every name
pub swept_settled : (dirs : List (List ℕ)) (table : Table) (f g : FileMap) → IsTidied dirs f g → StandsFor dirs table f → ((id : ℕ) → IsNamed dirs f id → id < table.next) → IsSwept dirs g → IsSettled dirs table g
swept_settled dirs table f g h stands fresh swept = record { stands = tidied_stands dirs table f g h stands; tidy = swept_tidy dirs table.next f g h fresh swept }

owner : (dirs : List (List ℕ)) (g : FileMap) (id : ℕ) (s : Spot) (c : Control) → s.id ≡ id → IsLive dirs g s c → NeedsBody c → (s.kind ≡ Qf) ⊎ (s.kind ≡ Sf) → HasOwner dirs g id
owner dirs g id s c i live needs (inl qf) = of_queued s (live_read live).bytes i qf (live_read live).there
owner dirs g id s c i live needs (inr sf) = of_finished s c i sf (live_read live) (λ rows. live_plain live (reopened s c (live_read live) sf rows)) needs

-- a swept map is clean
pub swept_clean : (dirs : List (List ℕ)) (g : FileMap) → IsSwept dirs g → IsClean dirs g
swept_clean dirs g swept = record {
  drafts = swept.drafts;
  live = λ t b there plain. ⊎_elim (λ (k : IsStrange dirs g t). absurd (plain k)) (λ (w : (c : Control) × IsLive dirs g t c). w) (swept.known t b there);
  waiting = swept.waiting;
  bodies = λ dir id b among within there. ⊎_elim
      (λ (k : (s : Spot) × (s.id ≡ id) × IsStrange dirs g s). of_strange k.0 k.1 k.2)
      (λ (k : (s : Spot) × (c : Control) × (s.id ≡ id) × IsLive dirs g s c × NeedsBody c). owner dirs g id k.0 k.1 k.2 k.3 k.4 (live_read k.3).there.spot.kind)
      (swept.bodies dir id b among within there);
}

-- the body of a live entry that wants none
pub finish_body : (dirs : List (List ℕ)) (f g h : FileMap) (s : Spot) (c : Control) → IsTidied dirs f g → IsLive dirs f s c → (NeedsBody c → ⊥) → HasRemoved (body_place s) g h → IsTidied dirs f h
finish_body dirs f g h s c tidied live none r =
    let its = (live_read live).there.spot in
    drop_body dirs f g h s.dir s.id its.among its.within
    (λ t i k. let there = strange_control k in live_plain live (subst (λ (q : Spot). IsStrange dirs f q) (one_spot dirs f s t c there.0 live there.1 i) k))
    (λ t d i read needs.
    let o = origin dirs f g tidied t read.bytes read.there in
    let was = read_back o.1 d read in
    let q : o.0 ≡ s = one_spot dirs f s o.0 c was.bytes live was.there (sym (went_id o.1) ∙ i) in
    none (subst NeedsBody (one_control dirs f s d c (subst (λ (w : Spot). IsRead dirs f w d) q was) (live_read live)) needs))
    tidied r
