-- A finish: its calls, and that the store agrees with what it leaves.
use Rattle.std.proofs.Common.{◌≡◌, ◌≢◌, ◌⊎◌, inl, inr, ⊎_elim, ℕ, List, map, Bool, true, false, true≢false, Some, None, sym, ◌∙◌, ap, subst, if◌then◌else◌, eq-eqb, ne_eqb}
use Rattle.std.proofs.lemmas.Bool.{cases_eq}
use Rattle.std.proofs.lemmas.List.Elements.{All-weaker, All-map}
use Rattle.mail_base.specs.Names.{name_of}
use Rattle.mail_base.specs.States.{NeedsBody, needs_body}
use Rattle.mail_base.specs.declared.id.Kind.{Kind}
use Rattle.mail_base.specs.declared.id.Kind.TheVariants.{Df, Qf, Sf}
use Rattle.mail_base.specs.declared.control.Control.{Control}
use Rattle.spool_disk.specs.Disk.{Place, FileMap, bytes_at, IsSame, HasRenamed, HasRemoved}
use Rattle.spool_store.specs.Queue.{Spot, spot_place, body_place, IsSpot, IsLive}
use Rattle.spool_store.specs.Tidying.{IsTidied, HasMoved, IsMove, as_kind}
use Rattle.spool_store.specs.inner.Finishing.{IsDone, HasEnded, HasFinished}
use Rattle.spool_store.specs.Stores.{spot_at, StoreSeen, HasHeld, Agrees, refinished}
use Rattle.spool_store.specs.declared.held.Held.{Held}
use Rattle.spool_store.proofs.Agreeing.{strays_alike}
use Rattle.spool_store.proofs.Carrying.{live_read}
use Rattle.spool_store.proofs.Places.{kinds_of, not_kind}
use Rattle.spool_store.proofs.Raising.{spot_or}
use Rattle.spool_store.proofs.Replacing.{contains_map}
use Rattle.spool_store.proofs.Standing.{one_live, one_spot}
use Rattle.spool_store.proofs.Sweeping.{tidied_none, tidied_unchanged, move_live, finish_body, tidied_tidy, tidied_same, elsewhere, sf_spot}
use Rattle.spool_store.proofs.Tidying.{Went, stayed, went, origin, tidied_strange, tidied_live, tidied_live_back}

-- the renaming
move_of : (dirs : List (List ℕ)) (f g : FileMap) (s : Spot) (c : Control) (dir qf sf : List ℕ) → IsDone dirs f s c → dir ≡ s.dir → qf ≡ name_of Qf s.id → sf ≡ name_of Sf s.id → HasRenamed dir qf sf f g → IsMove dirs f f g s c
move_of dirs f g s c dir qf sf done in_dir from to r =
    let its = live_read done.live in
    let one = subst (λ (q : List ℕ). HasRenamed q qf sf f g) in_dir r in
    let two = subst (λ (q : List ℕ). HasRenamed s.dir q sf f g) (from ∙ ap (λ (k : Kind). name_of k s.id) (sym done.kind)) one in
    let all = subst (λ (q : List ℕ). HasRenamed s.dir (name_of s.kind s.id) q f g) to two in
    record { kind = done.kind; live = done.live; closed = done.closed; bytes = its.bytes; there = its.there; renamed = record { holds = all.holds; gone = all.gone; others = all.others } }

-- the renaming of a finish ends the entry
pub move_leads : (dirs : List (List ℕ)) (f : FileMap) (s : Spot) (c : Control) (dir qf sf : List ℕ) → IsDone dirs f s c → dir ≡ s.dir → qf ≡ name_of Qf s.id → sf ≡ name_of Sf s.id → (x g : FileMap) → x ≡ f → HasRenamed dir qf sf x g → HasEnded dirs f s g
move_leads dirs f s c dir qf sf done in_dir from to x g e r =
    let m = move_of dirs f g s c dir qf sf done in_dir from to (subst (λ (q : FileMap). HasRenamed dir qf sf q g) e r) in
    record {
      tidied = move_live dirs f f g s c m (tidied_none dirs f);
      gone = m.renamed.gone;
      holds = m.renamed.holds;
      others = elsewhere dirs f f g s c m;
    }

-- a stop at the renaming of a finish leaves a tidied map
pub move_safe : (dirs : List (List ℕ)) (f : FileMap) (s : Spot) (c : Control) (dir qf sf : List ℕ) → IsDone dirs f s c → dir ≡ s.dir → qf ≡ name_of Qf s.id → sf ≡ name_of Sf s.id → (x g : FileMap) → x ≡ f → IsSame x g ⊎ HasRenamed dir qf sf x g → IsTidied dirs f g
move_safe dirs f s c dir qf sf done in_dir from to x g e (inl same) = tidied_unchanged dirs f f g (subst (λ (q : FileMap). IsSame q g) e same) (tidied_none dirs f)
move_safe dirs f s c dir qf sf done in_dir from to x g e (inr r) = (move_leads dirs f s c dir qf sf done in_dir from to x g e r).tidied

-- the removal
no_body : (c : Control) → needs_body c ≡ false → NeedsBody c → ⊥
no_body c e needs = true≢false (sym needs ∙ e)

removed_at : (s : Spot) (dir df : List ℕ) (x g : FileMap) → dir ≡ s.dir → df ≡ name_of Df s.id → HasRemoved (dir, df) x g → HasRemoved (body_place s) x g
removed_at s dir df x g in_dir is r = subst (λ (q : Place). HasRemoved q x g) (λ i. (in_dir i, is i)) r

spot_apart : (dirs : List (List ℕ)) (s t : Spot) → IsSpot dirs t → spot_place t ≢ body_place s
spot_apart dirs s t spot = λ e. (not_kind t.kind spot.kind).0 (kinds_of t.dir s.dir t.kind Df t.id s.id e)

-- the removal of the body behind that finishes the entry
pub drop_leads : (dirs : List (List ℕ)) (f : FileMap) (s : Spot) (c : Control) (dir df : List ℕ) → IsDone dirs f s c → needs_body c ≡ false → dir ≡ s.dir → df ≡ name_of Df s.id → (x g : FileMap) → HasEnded dirs f s x → HasRemoved (dir, df) x g → HasFinished dirs f s c g
drop_leads dirs f s c dir df done none in_dir is x g ended r =
    let its = (live_read done.live).there.spot in
    let gone = removed_at s dir df x g in_dir is r in
    record {
      ended = record {
        tidied = finish_body dirs f x g s c ended.tidied done.live (no_body c none) gone;
        gone = gone.others (spot_place s) (spot_apart dirs s s its) ∙ ended.gone;
        holds = gone.others (spot_place (as_kind Sf s)) (spot_apart dirs s (as_kind Sf s) (sf_spot dirs s its)) ∙ ended.holds;
        others = λ t spot ne nor. gone.others (spot_place t) (spot_apart dirs s t spot) ∙ ended.others t spot ne nor;
      };
      body = λ e. gone.gone;
    }

-- a stop at the removal of the body leaves a tidied map
pub drop_safe : (dirs : List (List ℕ)) (f : FileMap) (s : Spot) (c : Control) (dir df : List ℕ) → IsDone dirs f s c → needs_body c ≡ false → dir ≡ s.dir → df ≡ name_of Df s.id → (x g : FileMap) → HasEnded dirs f s x → IsSame x g ⊎ HasRemoved (dir, df) x g → IsTidied dirs f g
drop_safe dirs f s c dir df done none in_dir is x g ended (inl same) = tidied_unchanged dirs f x g same ended.tidied
drop_safe dirs f s c dir df done none in_dir is x g ended (inr r) = (drop_leads dirs f s c dir df done none in_dir is x g ended r).ended.tidied

-- the store afterwards
finished_at : (id : ℕ) (h : Held) → h.entry.id ≡ id → refinished id h ≡ record h { finished = true }
finished_at id h i = ap (λ (b : Bool). if b then record h { finished = true } else h) (eq-eqb h.entry.id id i)

finished_other : (id : ℕ) (h : Held) → h.entry.id ≢ id → refinished id h ≡ h
finished_other id h ne = ap (λ (b : Bool). if b then record h { finished = true } else h) (ne_eqb h.entry.id id ne)

moved_of : (dirs : List (List ℕ)) (f g : FileMap) (s : Spot) (c : Control) → IsDone dirs f s c → HasEnded dirs f s g → HasMoved dirs f g s
moved_of dirs f g s c done e = record { kind = done.kind; control = c; live = done.live; closed = done.closed; gone = e.gone; holds = e.holds }

each_finished : (dirs : List (List ℕ)) (s : Spot) (c : Control) (f g : FileMap) → IsDone dirs f s c → HasEnded dirs f s g → (h : Held) → IsLive dirs f (spot_at h) h.entry.control → IsLive dirs g (spot_at (refinished s.id h)) (refinished s.id h).entry.control
each_finished dirs s c f g done e h live = ⊎_elim
    (λ (i : h.entry.id ≡ s.id).
    let one = one_live dirs f s (spot_at h) c h.entry.control done.live live i in
    let new : IsLive dirs g (as_kind Sf s) h.entry.control = tidied_live dirs f g e.tidied s (as_kind Sf s) h.entry.control (went s (moved_of dirs f g s c done e)) (subst (λ (q : Spot). IsLive dirs f q h.entry.control) one.0 live) in
    subst (λ (q : Held). IsLive dirs g (spot_at q) q.entry.control) (sym (finished_at s.id h i)) (subst (λ (q : Spot). IsLive dirs g q h.entry.control) (ap (as_kind Sf) (sym one.0)) new))
    (λ (i : h.entry.id ≢ s.id).
    let spot = (live_read live).there.spot in
    let same = e.others (spot_at h) spot (λ q. i (ap (λ (r : Spot). r.id) q)) (λ q. i (ap (λ (r : Spot). r.id) q)) in
    subst (λ (q : Held). IsLive dirs g (spot_at q) q.entry.control) (sym (finished_other s.id h i)) (tidied_live dirs f g e.tidied (spot_at h) (spot_at h) h.entry.control (stayed (spot_at h) same) live))
    (cases_eq h.entry.id s.id)

-- where an entry of the new map was
found : (store : StoreSeen) (s : Spot) (c : Control) (f g : FileMap) → IsDone store.dirs f s c → HasEnded store.dirs f s g → Agrees store f → {r t : Spot} → Went store.dirs f g r t → (d : Control) → IsLive store.dirs g t d → HasHeld (map (refinished s.id) store.entries) t d
found store s c f g done e a (stayed r same) d live =
    let was = tidied_live_back store.dirs f g e.tidied r r d (stayed r same) live in
    let has = a.all r d was in
    let apart : has.held.entry.id ≢ s.id = λ i.
    let q : r ≡ s = one_spot store.dirs f s r c (live_read was).bytes done.live (live_read was).there (sym (ap (λ (w : Spot). w.id) has.spot) ∙ i) in
    let z : Some (live_read live).bytes ≡ None = sym (live_read live).there.there ∙ ap (λ (w : Spot). bytes_at g (spot_place w)) q ∙ e.gone in cc z
    in
    let is = finished_other s.id has.held apart in
    record { held = refinished s.id has.held; among = contains_map (refinished s.id) has.held store.entries has.among; spot = ap spot_at is ∙ has.spot; control = ap (λ (q : Held). q.entry.control) is ∙ has.control }
found store s c f g done e a (went r m) d live =
    let was = tidied_live_back store.dirs f g e.tidied (as_kind Sf r) r d (went r m) live in
    let has = a.all r d was in
    let here : has.held.entry.id ≡ s.id = ⊎_elim
    (λ (q : r ≡ s). ap (λ (w : Spot). w.id) has.spot ∙ ap (λ (w : Spot). w.id) q)
    (λ (ne : r ≢ s).
    let same = e.others r (live_read was).there.spot ne (λ q. let z : Qf ≡ Sf = sym m.kind ∙ ap (λ (w : Spot). w.kind) q in cc z) in
    let z : Some (live_read was).bytes ≡ None = sym (live_read was).there.there ∙ sym same ∙ m.gone in cc z)
    (spot_or store.dirs r s)
    in
    let is = finished_at s.id has.held here in
    record { held = refinished s.id has.held; among = contains_map (refinished s.id) has.held store.entries has.among; spot = ap spot_at is ∙ ap (as_kind Sf) has.spot; control = ap (λ (q : Held). q.entry.control) is ∙ has.control }

-- a store with the entry finished agrees with the map in which it ended
pub ended_agrees : (store : StoreSeen) (s : Spot) (c : Control) (f g : FileMap) → IsDone store.dirs f s c → HasEnded store.dirs f s g → Agrees store f → Agrees (record store { entries = map (refinished s.id) store.entries }) g
ended_agrees store s c f g done e a = record {
  each = All-map (λ (h : Held). IsLive store.dirs g (spot_at h) h.entry.control) (refinished s.id) store.entries (All-weaker (λ (h : Held). IsLive store.dirs f (spot_at h) h.entry.control) (λ (h : Held). IsLive store.dirs g (spot_at (refinished s.id h)) (refinished s.id h).entry.control) (each_finished store.dirs s c f g done e) store.entries a.each);
  all = λ t d live. let o = origin store.dirs f g e.tidied t (live_read live).bytes (live_read live).there in found store s c f g done e a o.1 d live;
  strange = λ stray. (
    λ k. (a.strange stray).0 (strays_alike store.dirs g f (λ t is. tidied_same store.dirs f g e.tidied t is) (λ place foreign. sym (e.tidied.others place foreign)) stray k),
    λ m. strays_alike store.dirs f g (λ t is. tidied_strange store.dirs f g e.tidied t is) (λ place foreign. e.tidied.others place foreign) stray ((a.strange stray).1 m),
  );
  tidy = tidied_tidy store.dirs store.next f g e.tidied a.tidy;
}
