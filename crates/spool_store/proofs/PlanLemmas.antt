-- What was picked, and that a map is swept once it is gone.
use Rattle.std.proofs.Common.{◌≡◌, ◌≢◌, ◌⊎◌, inl, inr, ⊎_elim, ℕ, ◌+◌, ◌<◌, List, [], ◌∷◌, ◌++◌, length, take, get_or, Option, Some, None, IsSome, Bool, true, false, true≢false, refl, sym, ◌∙◌, ap, subst, arith, Contains, if◌then◌else◌}
use Rattle.std.proofs.lemmas.List.{take_more}
use Rattle.std.proofs.lemmas.List.Elements.{Contains-append_left, Contains-append_right, Contains-append_cases, Contains-push, Contains-push_cases}
use Rattle.mail_base.specs.declared.id.Kind.{Kind}
use Rattle.mail_base.specs.declared.id.Kind.TheVariants.{Df, Qf, Sf, Tf}
use Rattle.mail_base.specs.declared.control.Control.{Control}
use Rattle.mail_base.specs.Limits.{IsId}
use Rattle.mail_base.specs.States.{NeedsBody, is_finished}
use Rattle.spool_disk.specs.Disk.{Place, FileMap, bytes_at}
use Rattle.qf_format.specs.Saying.{Says}
use Rattle.spool_store.specs.Queue.{at, IsOpen, Spot, spot_place, IsControl, IsRead, HasTwin, IsStrange, twice, IsLive}
use Rattle.spool_store.specs.Tidying.{IsTidied, IsTidiedBody, IsDead, IsSwept, as_kind}
use Rattle.spool_store.specs.inner.Judging.{IsVerdict, AreJudged}
use Rattle.spool_store.specs.declared.named.Named.{Named}
use Rattle.spool_store.specs.declared.named.Found.{Found}
use Rattle.spool_store.specs.declared.verdict.Verdict.{Verdict}
use Rattle.spool_store.specs.declared.verdict.Verdict.TheVariants.{Strange, Dead, Live}
use Rattle.spool_store.specs.inner.Finds.{AreFound, AreNamed, IsFound, IsMeaning, dir_at, spot_named}
use Rattle.spool_store.specs.inner.Plans.{Picks, AreDrafts, AreDead, AreDone, AreUnwanted}
use Rattle.spool_store.specs.inner.Sweeps.{IsDecided, IsDone, IsSweptOf, IsUnwanted, IsWanted, MayFinish, MayGo, a_draft, a_dead, a_body, place_named, places, by_strange, by_live}
use Rattle.spool_store.proofs.Carrying.{live_read, live_plain, strange_control}
use Rattle.spool_store.proofs.Standing.{decided, one_live, same_or_twin}
use Rattle.spool_store.proofs.Reading.{says_one}
use Rattle.spool_store.proofs.Readings.{dir_numbered}
use Rattle.spool_store.proofs.Judgements.{zip_at}
use Rattle.spool_store.proofs.Replacing.{contains_map}
use Rattle.spool_store.proofs.Tidying.{Went, stayed, went, origin, went_back, went_id, strange_went, tidied_live, tidied_live_back, tidied_strange, live_goes}
use Rattle.spool_store.proofs.Places.{ids_of, kinds_of}
use Rattle.spool_store.proofs.Sweeping.{not_of_live}
use Rattle.spool_store.proofs.SweepLemmas.{gone_dead, of_map, same_place}
use Rattle.spool_store.proofs.Verdicts.{some_once}
use Rattle.mail_base.specs.Names.{name_of}

pub picks_by : {X : Type 0} (n : X → Named) (P Q : X → Type 0) (from : List X) (y : X) (b : Bool) (old new : List Named) → (b ≡ true → P y) → (b ≡ false → Q y) → new ≡ (if b then old ++ n y ∷ [] else old) → Picks n P Q from old → Picks n P Q (from ++ y ∷ []) new
picks_by n P Q from y true old new when unless e h = rw e (record {
  each = λ x c. ⊎_elim
      (λ (was : Contains old x). let z = h.each x was in (z.0, Contains-append_left from (y ∷ []) z.0 z.1, z.2, z.3))
      (λ (q : n y ≡ x). (y, Contains-push from y, q, when refl))
      (Contains-push_cases old (n y) x c);
  all = λ z c. ⊎_elim
      (λ (was : Contains from z). ⊎_elim (λ (in' : Contains old (n z)). inl (Contains-append_left old (n y ∷ []) (n z) in')) (λ (q : Q z). inr q) (h.all z was))
      (λ (q : y ≡ z). inl (subst (λ w. Contains (old ++ n y ∷ []) (n w)) q (Contains-push old (n y))))
      (Contains-push_cases from y z c);
})
picks_by n P Q from y false old new when unless e h = rw e (record {
  each = λ x c. let z = h.each x c in (z.0, Contains-append_left from (y ∷ []) z.0 z.1, z.2, z.3);
  all = λ z c. ⊎_elim
      (λ (was : Contains from z). h.all z was)
      (λ (q : y ≡ z). inr (subst Q q (unless refl)))
      (Contains-push_cases from y z c);
})

-- a file's verdict
by_verdict : (dirs : List (List ℕ)) (f : FileMap) (s : Spot) (v : Verdict) → IsVerdict dirs f s v → IsStrange dirs f s ⊎ (IsDead dirs f s ⊎ ((c : Control) × IsLive dirs f s c))
by_verdict dirs f s Strange k = inl k
by_verdict dirs f s Dead k = inr (inl k)
by_verdict dirs f s (Live r) k = inr (inr (k.control, k.live))

judged_one : (dirs : List (List ℕ)) (f : FileMap) (found : List Found) (verdicts : List Verdict) (x : Found) → length verdicts ≡ length found → AreJudged dirs f found verdicts → Contains found x → IsStrange dirs f (spot_named dirs x.named) ⊎ (IsDead dirs f (spot_named dirs x.named) ⊎ ((c : Control) × IsLive dirs f (spot_named dirs x.named) c))
judged_one dirs f found verdicts x long h c =
    let k = zip_at (λ y w. IsVerdict dirs f (spot_named dirs y.named) w) found verdicts c.0 x Strange h (omega (arith, c.1, long)) in
    subst (λ (y : Found). IsStrange dirs f (spot_named dirs y.named) ⊎ (IsDead dirs f (spot_named dirs y.named) ⊎ ((d : Control) × IsLive dirs f (spot_named dirs y.named) d))) c.2 (by_verdict dirs f (spot_named dirs (get_or found c.0 x).named) (get_or verdicts c.0 Strange) k)

-- a map whose control files are all judged is decided
pub decided_by : (dirs : List (List ℕ)) (f : FileMap) (found : List Found) (verdicts : List Verdict) → length verdicts ≡ length found → AreFound dirs f found → AreJudged dirs f found verdicts → IsDecided dirs f
decided_by dirs f found verdicts long hf hj = record {
  verdict = λ s b there.
      let y = hf.all s b there in
      subst (λ (w : Spot). IsStrange dirs f w ⊎ (IsDead dirs f w ⊎ ((c : Control) × IsLive dirs f w c))) y.2 (judged_one dirs f found verdicts y.0 long hj y.1);
}

-- the dead ones are picked
pub dead_gone : (dirs : List (List ℕ)) (f : FileMap) (found : List Found) (dead : List Named) → AreFound dirs f found → AreDead dirs f found dead → (s : Spot) → IsDead dirs f s → Contains (places dirs dead) (spot_place s)
dead_gone dirs f found dead hf picks s k =
    let y = hf.all s k.bytes k.there in
    ⊎_elim
    (λ (c : Contains dead y.0.named). subst (λ (p : Spot). Contains (places dirs dead) (spot_place p)) y.2 (contains_map (place_named dirs) y.0.named dead c))
    (λ (no : IsDead dirs f (spot_named dirs y.0.named) → ⊥). absurd (no (subst (IsDead dirs f) (sym y.2) k)))
    (picks.all y.0 y.1)

-- a body is that of a file that was named
body_named : (dirs : List (List ℕ)) (f : FileMap) (names : List Named) (kind : Kind) (dir : List ℕ) (id : ℕ) (b : List ℕ) → AreNamed dirs f (length dirs) names → Contains dirs dir → IsId id → bytes_at f (at dir kind id) ≡ Some b → (x : Named) × Contains names x × (x.kind ≡ kind) × (x.id ≡ id) × (dir_at dirs x.dir ≡ dir)
body_named dirs f names kind dir id b h among within there =
    let i = dir_numbered dirs dir among in
    (record { dir = i.0; kind = kind; id = id }, h.all i.0 kind id i.1 within (subst (λ (d : List ℕ). IsSome (bytes_at f (at d kind id))) (sym i.2) (subst (λ (o : Option (List ℕ)). IsSome o) (sym there) refl)), refl, refl, i.2)

-- what is known once all these are gone
pub record AreGone (dirs : List (List ℕ)) (f : FileMap) (names : List Named) (found : List Found) (done : List Place) : Type 0 where
  pub drafts : (x : Named) → Contains names x → x.kind ≡ Tf → Contains done (place_named dirs x)
  pub dead : (s : Spot) → IsDead dirs f s → Contains done (spot_place s)
  pub closed : (y : Found) → Contains found y → IsDone dirs f y.named → Contains done (place_named dirs y.named)
  pub bodies : (x : Named) → Contains names x → x.kind ≡ Df → Contains done (place_named dirs x) ⊎ IsWanted dirs f x

some_or_none : (o : Option (List ℕ)) → (o ≡ None) ⊎ ((b : List ℕ) × (o ≡ Some b))
some_or_none None = inl refl
some_or_none (Some b) = inr (b, refl)

no_draft : (dirs : List (List ℕ)) (f g : FileMap) (names : List Named) (found : List Found) (done : List Place) → AreNamed dirs f (length dirs) names → AreGone dirs f names found done → IsSweptOf dirs f done g → (dir : List ℕ) (id : ℕ) → Contains dirs dir → IsId id → bytes_at g (at dir Tf id) ≡ None
no_draft dirs f g names found done hn gone swept dir id among within = ⊎_elim
    (λ (e : bytes_at g (at dir Tf id) ≡ bytes_at f (at dir Tf id)). ⊎_elim
    (λ (none : bytes_at f (at dir Tf id) ≡ None). e ∙ none)
    (λ (some : (b : List ℕ) × (bytes_at f (at dir Tf id) ≡ Some b)).
    let x = body_named dirs f names Tf dir id some.0 hn among within some.1 in
    let place : place_named dirs x.0 ≡ at dir Tf id = same_place _ _ _ _ x.4 (ap (λ (k : Kind). name_of k x.0.id) x.2 ∙ ap (λ (i : ℕ). name_of Tf i) x.3) in
    ap (bytes_at g) (sym place) ∙ swept.gone (place_named dirs x.0) (gone.drafts x.0 x.1 x.2))
    (some_or_none (bytes_at f (at dir Tf id))))
    (λ (none : bytes_at g (at dir Tf id) ≡ None). none)
    (swept.tidied.drafts dir id among within)

known_by : (dirs : List (List ℕ)) (f g : FileMap) (names : List Named) (found : List Found) (done : List Place) → IsDecided dirs f → AreGone dirs f names found done → IsSweptOf dirs f done g → (t : Spot) (b : List ℕ) → IsControl dirs g t b → IsStrange dirs g t ⊎ ((c : Control) × IsLive dirs g t c)
known_by dirs f g names found done known gone swept t b there =
    let o = origin dirs f g swept.tidied t b there in
    let was = went_back o.1 b there in
    ⊎_elim
    (λ (k : IsStrange dirs f o.0). inl (subst (IsStrange dirs g) (strange_went o.1 k) (tidied_strange dirs f g swept.tidied o.0 k)))
    (λ (rest : IsDead dirs f o.0 ⊎ ((c : Control) × IsLive dirs f o.0 c)). ⊎_elim
    (λ (k : IsDead dirs f o.0). absurd (gone_dead dirs f g o.0 t b o.1 k (swept.gone (spot_place o.0) (gone.dead o.0 k)) there))
    (λ (k : (c : Control) × IsLive dirs f o.0 c). inr (k.0, tidied_live dirs f g swept.tidied o.0 t k.0 o.1 k.1))
    rest)
    (known.verdict o.0 b was)

still_queued : (dirs : List (List ℕ)) (f g : FileMap) (o s : Spot) → Went dirs f g o s → s.kind ≡ Qf → o ≡ s
still_queued dirs f g o s (stayed _ e) qf = refl
still_queued dirs f g o s (went _ m) qf = absurd (let z : Qf ≡ Sf = sym qf in cc z)

waiting_by : (dirs : List (List ℕ)) (f g : FileMap) (names : List Named) (found : List Found) (done : List Place) → AreFound dirs f found → AreGone dirs f names found done → IsSweptOf dirs f done g → (s : Spot) (c : Control) → IsLive dirs g s c → s.kind ≡ Qf → IsOpen c
waiting_by dirs f g names found done hf gone swept s c live qf = ⊎_elim
    (λ (when : is_finished c ≡ true).
    let read = live_read live in
    let o = origin dirs f g swept.tidied s read.bytes read.there in
    let was = tidied_live_back dirs f g swept.tidied s o.0 c o.1 live in
    let q : o.0 ≡ s = still_queued dirs f g o.0 s o.1 qf in
    let y = hf.all o.0 (live_read was).bytes (live_read was).there in
    let its : IsDone dirs f y.0.named = record { kind = ap (λ (w : Spot). w.kind) (y.2 ∙ q) ∙ qf; control = c; live = subst (λ (w : Spot). IsLive dirs f w c) (sym y.2) was; closed = λ unless. true≢false (sym when ∙ unless) } in
    let none = swept.gone (place_named dirs y.0.named) (gone.closed y.0 y.1 its) in
    absurd (let z : Some read.bytes ≡ None = sym read.there.there ∙ ap (λ (w : Spot). bytes_at g (spot_place w)) (sym (y.2 ∙ q)) ∙ none in cc z))
    (λ (unless : is_finished c ≡ false). unless)
    (decided (is_finished c))

owned : (dirs : List (List ℕ)) (f g : FileMap) (id : ℕ) (x : Named) → IsTidied dirs f g → x.id ≡ id → IsWanted dirs f x → ((s : Spot) × (s.id ≡ id) × IsStrange dirs g s) ⊎ ((s : Spot) × (c : Control) × (s.id ≡ id) × IsLive dirs g s c × NeedsBody c)
owned dirs f g id x tidied i (by_strange s e k) = inl (s, e ∙ i, tidied_strange dirs f g tidied s k)
owned dirs f g id x tidied i (by_live s c e live needs) = let t = live_goes dirs f g tidied s c live in inr (t.0, c, went_id t.1 ∙ e ∙ i, tidied_live dirs f g tidied s t.0 c t.1 live, needs)

body_kept : (dirs : List (List ℕ)) (f g : FileMap) (dir : List ℕ) (id : ℕ) (b : List ℕ) → bytes_at g (at dir Df id) ≡ Some b → IsTidiedBody dirs f g dir id → bytes_at f (at dir Df id) ≡ Some b
body_kept dirs f g dir id b there (IsTidiedBody.stays e) = sym e ∙ there
body_kept dirs f g dir id b there (IsTidiedBody.gone e strange wanted) = absurd (let z : Some b ≡ None = sym there ∙ e in cc z)

bodies_by : (dirs : List (List ℕ)) (f g : FileMap) (names : List Named) (found : List Found) (done : List Place) → AreNamed dirs f (length dirs) names → AreGone dirs f names found done → IsSweptOf dirs f done g → (dir : List ℕ) (id : ℕ) (b : List ℕ) → Contains dirs dir → IsId id → bytes_at g (at dir Df id) ≡ Some b → ((s : Spot) × (s.id ≡ id) × IsStrange dirs g s) ⊎ ((s : Spot) × (c : Control) × (s.id ≡ id) × IsLive dirs g s c × NeedsBody c)
bodies_by dirs f g names found done hn gone swept dir id b among within there =
    let x = body_named dirs f names Df dir id b hn among within (body_kept dirs f g dir id b there (swept.tidied.bodies dir id among within)) in
    let place : place_named dirs x.0 ≡ at dir Df id = same_place _ _ _ _ x.4 (ap (λ (k : Kind). name_of k x.0.id) x.2 ∙ ap (λ (i : ℕ). name_of Df i) x.3) in
    ⊎_elim
    (λ (c : Contains done (place_named dirs x.0)). absurd (let z : Some b ≡ None = sym there ∙ ap (bytes_at g) (sym place) ∙ swept.gone (place_named dirs x.0) c in cc z))
    (λ (w : IsWanted dirs f x.0). owned dirs f g id x.0 swept.tidied x.3 w)
    (gone.bodies x.0 x.1 x.2)

-- then the map is swept
pub swept_by : (dirs : List (List ℕ)) (f g : FileMap) (names : List Named) (found : List Found) (done : List Place) → AreNamed dirs f (length dirs) names → AreFound dirs f found → IsDecided dirs f → AreGone dirs f names found done → IsSweptOf dirs f done g → IsSwept dirs g
swept_by dirs f g names found done hn hf known gone swept = record {
  drafts = no_draft dirs f g names found done hn gone swept;
  known = known_by dirs f g names found done known gone swept;
  waiting = waiting_by dirs f g names found done hf gone swept;
  bodies = bodies_by dirs f g names found done hn gone swept;
}

-- from what was picked
pub gone_by : (dirs : List (List ℕ)) (f : FileMap) (names : List Named) (found : List Found) (drafts dead closed bodies : List Named) → AreFound dirs f found → AreDrafts names drafts → AreDead dirs f found dead → AreDone dirs f found closed → AreUnwanted dirs f names bodies
    → AreGone dirs f names found (((([] ++ places dirs drafts) ++ places dirs dead) ++ places dirs closed) ++ places dirs bodies)
gone_by dirs f names found drafts dead closed bodies hf pd pk pc pb =
    let a = [] ++ places dirs drafts in
    let b = a ++ places dirs dead in
    let d = b ++ places dirs closed in
    record {
      drafts = λ x c tf. ⊎_elim
          (λ (m : Contains drafts x). Contains-append_left d (places dirs bodies) (place_named dirs x) (Contains-append_left b (places dirs closed) (place_named dirs x) (Contains-append_left a (places dirs dead) (place_named dirs x) (Contains-append_right [] (places dirs drafts) (place_named dirs x) (contains_map (place_named dirs) x drafts m)))))
          (λ (no : x.kind ≡ Tf → ⊥). absurd (no tf))
          (pd.all x c);
      dead = λ s k. Contains-append_left d (places dirs bodies) (spot_place s) (Contains-append_left b (places dirs closed) (spot_place s) (Contains-append_right a (places dirs dead) (spot_place s) (dead_gone dirs f found dead hf pk s k)));
      closed = λ y c k. ⊎_elim
          (λ (m : Contains closed y.named). Contains-append_left d (places dirs bodies) (place_named dirs y.named) (Contains-append_right b (places dirs closed) (place_named dirs y.named) (contains_map (place_named dirs) y.named closed m)))
          (λ (no : IsDone dirs f y.named → ⊥). absurd (no k))
          (pc.all y c);
      bodies = λ x c df. ⊎_elim
          (λ (m : Contains bodies x). inl (Contains-append_right d (places dirs bodies) (place_named dirs x) (contains_map (place_named dirs) x bodies m)))
          (λ (w : x.kind ≡ Df → IsWanted dirs f x). inr (w df))
          (pb.all x c);
    }

-- why each may go
pub drafts_go : (dirs : List (List ℕ)) (f : FileMap) (names drafts : List Named) (done : List Place) → AreNamed dirs f (length dirs) names → AreDrafts names drafts → (x : Named) → Contains drafts x → MayGo dirs f done x
drafts_go dirs f names drafts done hn pd x c = let y = pd.each x c in let t = hn.each y.0 y.1 in subst (MayGo dirs f done) y.2 (a_draft y.3 t.before t.within)

-- the dead control files may be removed
pub dead_go : (dirs : List (List ℕ)) (f : FileMap) (found : List Found) (dead : List Named) (done : List Place) → AreDead dirs f found dead → (x : Named) → Contains dead x → MayGo dirs f done x
dead_go dirs f found dead done pk x c = let y = pk.each x c in subst (MayGo dirs f done) y.2 (a_dead y.3)

-- bodies that nothing wants may be removed once the dead control files are gone
pub bodies_go : (dirs : List (List ℕ)) (f : FileMap) (names bodies : List Named) (done : List Place) → AreNamed dirs f (length dirs) names → IsDecided dirs f → ((s : Spot) → IsDead dirs f s → Contains done (spot_place s)) → AreUnwanted dirs f names bodies → (x : Named) → Contains bodies x → MayGo dirs f done x
bodies_go dirs f names bodies done hn known dead pb x c = let y = pb.each x c in let t = hn.each y.0 y.1 in subst (MayGo dirs f done) y.2 (a_body y.3.0 t.before t.within dead y.3.1 known)

-- no draft and no dead file lies where a live one is to go
pub may_finish : (dirs : List (List ℕ)) (f : FileMap) (names : List Named) (found : List Found) (drafts dead closed : List Named) → AreDrafts names drafts → AreDead dirs f found dead → AreDone dirs f found closed → (x : Named) → Contains closed x → MayFinish dirs f (([] ++ places dirs drafts) ++ places dirs dead) x
may_finish dirs f names found drafts dead closed pd pk pc x c =
    let y = pc.each x c in
    let its : IsDone dirs f x = subst (IsDone dirs f) y.2 y.3 in
    let sf = as_kind Sf (spot_named dirs x) in
    record {
      entry = its;
      free = λ p. ⊎_elim
          (λ (q : Contains (places dirs drafts) (spot_place sf)).
          let d = of_map (place_named dirs) drafts (spot_place sf) q in
          let z = pd.each d.0 d.1 in
          let k : d.0.kind ≡ Sf = kinds_of (dir_at dirs d.0.dir) (dir_at dirs x.dir) d.0.kind Sf d.0.id x.id d.2 in
          let e : Tf ≡ Sf = sym (subst (λ (w : Named). w.kind ≡ Tf) z.2 z.3) ∙ k in cc e)
          (λ (q : Contains (places dirs dead) (spot_place sf)).
          let d = of_map (place_named dirs) dead (spot_place sf) q in
          let z = pk.each d.0 d.1 in
          let k : IsDead dirs f (spot_named dirs d.0) = subst (λ (w : Named). IsDead dirs f (spot_named dirs w)) z.2 z.3 in
          let within = (live_read its.live).there.spot.within in
          let i : d.0.id ≡ x.id = ids_of (dir_at dirs d.0.dir) (dir_at dirs x.dir) d.0.kind Sf d.0.id x.id k.there.spot.within within d.2 in
          not_of_live dirs f (spot_named dirs d.0) (spot_named dirs x) its.control k its.live (sym i))
          (Contains-append_cases (places dirs drafts) (places dirs dead) (spot_place sf) p);
    }

-- the next one
pub picks_next : {X : Type 0} (n : X → Named) (P Q : X → Type 0) (xs : List X) (i : ℕ) (y : X) (b : Bool) (old new : List Named) → i < length xs → y ≡ get_or xs i y → (b ≡ true → P y) → (b ≡ false → Q y) → new ≡ (if b then old ++ n y ∷ [] else old) → Picks n P Q (take i xs) old → Picks n P Q (take (i + 1) xs) new
picks_next n P Q xs i y b old new lt is when unless e h = subst (λ q. Picks n P Q q new) (sym (take_more xs i y lt ∙ ap (λ z. take i xs ++ z ∷ []) (sym is))) (picks_by n P Q (take i xs) y b old new when unless e h)

-- names that are picked by a test have what the test says
pub each_by : (S : Named → Type 0) (x : Named) (b : Bool) (old new : List Named) → (b ≡ true → S x) → new ≡ (if b then old ++ x ∷ [] else old) → ((y : Named) → Contains old y → S y) → (y : Named) → Contains new y → S y
each_by S x true old new when e h y c = ⊎_elim (λ (was : Contains old y). h y was) (λ (q : x ≡ y). subst S q (when refl)) (Contains-push_cases old x y (subst (λ (l : List Named). Contains l y) e c))
each_by S x false old new when e h y c = h y (subst (λ (l : List Named). Contains l y) e c)

-- the verdict at a place is that of the control file there
pub verdict_of : (dirs : List (List ℕ)) (f : FileMap) (found : List Found) (verdicts : List Verdict) (k : ℕ) (d : Found) (v : Verdict) → length verdicts ≡ length found → AreJudged dirs f found verdicts → k < length found → IsVerdict dirs f (spot_named dirs (get_or found k d).named) (get_or verdicts k v)
verdict_of dirs f found verdicts k d v long h lt = zip_at (λ y w. IsVerdict dirs f (spot_named dirs y.named) w) found verdicts k d v h (omega (arith, lt, long))

-- the verdict at the place of a control file is its own
pub verdict_item : (dirs : List (List ℕ)) (f : FileMap) (found : List Found) (verdicts : List Verdict) (k : ℕ) (x : Found) (v : Verdict) → length verdicts ≡ length found → AreJudged dirs f found verdicts → k < length found → x ≡ get_or found k x → IsVerdict dirs f (spot_named dirs x.named) (get_or verdicts k v)
verdict_item dirs f found verdicts k x v long h lt is = subst (λ (y : Found). IsVerdict dirs f (spot_named dirs y.named) (get_or verdicts k v)) (sym is) (verdict_of dirs f found verdicts k x v long h lt)

-- a control file with another verdict isn't dead
pub not_dead : (dirs : List (List ℕ)) (f : FileMap) (s : Spot) (v : Verdict) → IsVerdict dirs f s v → (v ≡ Dead → ⊥) → IsDead dirs f s → ⊥
not_dead dirs f s Strange k unless dead = dead.plain k
not_dead dirs f s Dead k unless dead = unless refl
not_dead dirs f s (Live r) k unless dead = dead.lost k.control k.live

said : (o : Option Control) (bytes : List ℕ) (c : Control) → IsMeaning bytes o → Says bytes c → o ≡ Some c
said None bytes c means says = absurd (means c says)
said (Some d) bytes c means says = ap (λ (q : Control). Some q) (says_one bytes d c means says)

-- what was found of a control file is the control that it says
pub found_says : (dirs : List (List ℕ)) (f : FileMap) (x : Found) (c : Control) → IsFound dirs f x → IsRead dirs f (spot_named dirs x.named) c → x.control ≡ Some c
found_says dirs f x c h read = said x.control h.bytes c h.means (subst (λ (b : List ℕ). Says b c) (some_once (sym read.there.there ∙ h.there.there)) read.says)

-- a control file that isn't strange: no other of its id is
pub none_strange : (dirs : List (List ℕ)) (f : FileMap) (s t : Spot) (b : List ℕ) → IsControl dirs f s b → (IsStrange dirs f s → ⊥) → IsStrange dirs f t → t.id ≡ s.id → ⊥
none_strange dirs f s t b there plain k i = ⊎_elim
    (λ (q : t ≡ s). plain (subst (IsStrange dirs f) q k))
    (λ (twin : HasTwin dirs f s). plain (twice s b there twin))
    (same_or_twin dirs f s t (strange_control k).0 (strange_control k).1 i)

-- a body of a dead control file's id is unwanted
pub unwanted_dead : (dirs : List (List ℕ)) (f : FileMap) (s : Spot) (x : Named) → IsDead dirs f s → s.id ≡ x.id → IsUnwanted dirs f x
unwanted_dead dirs f s x dead i = record {
  strange = λ t k st. none_strange dirs f s t dead.bytes dead.there dead.plain st (k ∙ sym i);
  live = λ t c k live needs. not_of_live dirs f s t c dead live (k ∙ sym i);
}

-- a body that its live control file doesn't need is unwanted
pub unwanted_live : (dirs : List (List ℕ)) (f : FileMap) (s : Spot) (c : Control) (x : Named) → IsLive dirs f s c → s.id ≡ x.id → (NeedsBody c → ⊥) → IsUnwanted dirs f x
unwanted_live dirs f s c x live i unless = record {
  strange = λ t k st. none_strange dirs f s t (live_read live).bytes (live_read live).there (live_plain live) st (k ∙ sym i);
  live = λ t e k other needs. unless (subst NeedsBody (sym (one_live dirs f s t c e live other (k ∙ sym i)).1) needs);
}

-- a body of an id without a control file is unwanted
pub unwanted_none : (dirs : List (List ℕ)) (f : FileMap) (found : List Found) (x : Named) → AreFound dirs f found → ((y : Found) → Contains found y → y.named.id ≢ x.id) → IsUnwanted dirs f x
unwanted_none dirs f found x h none = record {
  strange = λ t k st. let y = h.all t (strange_control st).0 (strange_control st).1 in none y.0 y.1 (ap (λ (w : Spot). w.id) y.2 ∙ k);
  live = λ t c k live needs. let y = h.all t (live_read live).bytes (live_read live).there in none y.0 y.1 (ap (λ (w : Spot). w.id) y.2 ∙ k);
}

-- drafts that are picked of names lie in the same directories
pub drafts_within : (n : ℕ) (names drafts : List Named) → AreDrafts names drafts → ((x : Named) → Contains names x → x.dir < n) → (x : Named) → Contains drafts x → x.dir < n
drafts_within n names drafts pd h x c = let y = pd.each x c in subst (λ (w : Named). w.dir < n) y.2 (h y.0 y.1)
