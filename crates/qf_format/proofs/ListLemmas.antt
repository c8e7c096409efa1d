-- Items that are read one after the other.
use Rattle.std.proofs.Common.{◌≡◌, ℕ, List, [], ◌∷◌, ◌++◌, refl, sym, ap, subst, ◌∙◌, append_assoc}
use Rattle.std.specs.Prelude.{All}
use Rattle.std.specs.List.{flat_map}
use Rattle.std.proofs.lemmas.List.{append-nil}
use Rattle.std.proofs.lemmas.List.Concat.{flat_map-cons, flat_map-append}
use Rattle.std.proofs.lemmas.List.Elements.{All-nil, All-push, All-head, All-tail}
use Rattle.qf_format.specs.inner.Reading.{Front, NoFront, Stops}
use Rattle.qf_format.specs.declared.stop.Stop.{Stop}
use Rattle.qf_format.specs.declared.stop.Stop.TheVariants.{Outside, Memory}
use Rattle.qf_format.proofs.ReadLemmas.{both, BothFormed, none_first, none_second, Retold, none_as}
use Rattle.qf_format.specs.inner.Parts.{At, NotAt}

-- the items so far were read, and whatever spells the bytes goes on with the rest
pub record ReadSoFar {X : Type 0} (s : X → List ℕ) (v : X → Type 0) (f : List ℕ → Type 0) (bytes : List ℕ) (xs : List X) (rest : List ℕ) : Type 0 where
  pub is_formed : All v xs
  pub parts : bytes ≡ flat_map s xs ++ rest
  pub only : (ys : List X) (z : List ℕ) → All v ys → f z → bytes ≡ flat_map s ys ++ z → (zs : List X) × (ys ≡ xs ++ zs) × All v zs × (rest ≡ flat_map s zs ++ z)

module _ {X : Type 0} (s : X → List ℕ) (v : X → Type 0) (g f : List ℕ → Type 0) (letter : ℕ) (begins : (x : X) (z : List ℕ) → At letter (s x ++ z)) (ends : (z : List ℕ) → f z → NotAt letter z) (goes_on : (xs : List X) (z : List ℕ) → f z → g (flat_map s xs ++ z)) (bytes : List ℕ) where
  -- before any item was read, none was, and all bytes are the rest
  pub none_so_far : ReadSoFar s v f bytes [] bytes
  none_so_far = record { is_formed = All-nil v; parts = refl; only = λ ys z h k e. (ys, refl, h, e) }

  cons_parts : (x : X) (xs : List X) (z : List ℕ) → flat_map s (x ∷ xs) ++ z ≡ s x ++ (flat_map s xs ++ z)
  cons_parts x xs z = ap (λ (b : List ℕ). b ++ z) (flat_map-cons s x xs) ∙ append_assoc (s x) (flat_map s xs) z

  not_here : (rest z : List ℕ) → At letter rest → f z → rest ≡ z → {A : Type 0} → A
  not_here rest z h k e = absurd (ends z k (subst (At letter) e h))

  step_only : (rest : List ℕ) (x : X) (after : List ℕ) → Front s v g rest x after → (zs : List X) (z : List ℕ) → All v zs → f z → rest ≡ flat_map s zs ++ z → (us : List X) × (zs ≡ x ∷ us) × All v us × (after ≡ flat_map s us ++ z)
  step_only rest x after a [] z h k e = not_here rest z (subst (At letter) (sym a.parts) (begins x after)) k e
  step_only rest x after a (y ∷ us) z h k e =
      let o = a.only y (flat_map s us ++ z) (All-head v y us h) (goes_on us z k) (e ∙ cons_parts y us z) in
      (us, ap (λ (w : X). w ∷ us) o.0, All-tail v y us h, sym o.1)

  -- one item more was read, and what stands behind it is the rest
  pub one_more : (xs : List X) (rest : List ℕ) (x : X) (after : List ℕ) → ReadSoFar s v f bytes xs rest → Front s v g rest x after → ReadSoFar s v f bytes (xs ++ x ∷ []) after
  one_more xs rest x after r a = record {
    is_formed = All-push v xs x r.is_formed a.is_formed;
    parts = r.parts ∙ ap (λ (b : List ℕ). flat_map s xs ++ b) a.parts ∙ sym (append_assoc (flat_map s xs) (s x) after) ∙ ap (λ (b : List ℕ). (flat_map s xs ++ b) ++ after) (sym (append-nil (s x))) ∙ ap (λ (b : List ℕ). b ++ after) (sym (flat_map-append s xs (x ∷ [])));
    only = λ ys z h k e.
        let o = r.only ys z h k e in
        let p = step_only rest x after a o.0 z o.2 k o.3 in
        (p.0, o.1 ∙ ap (λ (w : List X). xs ++ w) p.1 ∙ sym (append_assoc xs (x ∷ []) p.0), p.2, p.3);
  }

  done_only : (rest : List ℕ) → NotAt letter rest → (zs : List X) (z : List ℕ) → rest ≡ flat_map s zs ++ z → (zs ≡ []) × (z ≡ rest)
  done_only rest h [] z e = (refl, sym e)
  done_only rest h (y ∷ us) z e = absurd (h (subst (At letter) (sym (e ∙ cons_parts y us z)) (begins y (flat_map s us ++ z))))

  -- where the items' letter doesn't follow, those so far are all of them
  pub all_read : (xs : List X) (rest : List ℕ) → ReadSoFar s v f bytes xs rest → NotAt letter rest → Front (flat_map s) (All v) f bytes xs rest
  all_read xs rest r h = record {
    is_formed = r.is_formed;
    parts = r.parts;
    only = λ ys z k l e.
        let o = r.only ys z k l e in
        let d = done_only rest h o.0 z o.3 in
        (o.1 ∙ ap (λ (w : List X). xs ++ w) d.0 ∙ append-nil xs, d.1);
  }

  stuck_only : (rest : List ℕ) → At letter rest → NoFront s v g rest → (zs : List X) (z : List ℕ) → All v zs → f z → rest ≡ flat_map s zs ++ z → ⊥
  stuck_only rest h n [] z k l e = ends z l (subst (At letter) e h)
  stuck_only rest h n (y ∷ us) z k l e = n.none y (flat_map s us ++ z) (All-head v y us k) (goes_on us z l) (e ∙ cons_parts y us z)

  -- where the items' letter follows and no item can be read there, the list can't be read
  pub stuck : (xs : List X) (rest : List ℕ) → ReadSoFar s v f bytes xs rest → At letter rest → NoFront s v g rest → NoFront (flat_map s) (All v) f bytes
  stuck xs rest r h n = record { none = λ ys z k l e. let o = r.only ys z k l e in stuck_only rest h n o.0 z o.2 l o.3 }

-- ---- fewer values at the front

module _ {X : Type 0} (s : X → List ℕ) (v w : X → Type 0) (f : List ℕ → Type 0) (weaker : (x : X) → w x → v x) (bytes : List ℕ) where
  -- a value that was read, and has the narrower form too, is read as one of that form
  pub front_narrow : (x : X) (rest : List ℕ) → Front s v f bytes x rest → w x → Front s w f bytes x rest
  front_narrow x rest a h = record { is_formed = h; parts = a.parts; only = λ y z k l e. a.only y z (weaker y k) l e }

  -- a value that was read, and hasn't the narrower form, is none of that form
  pub front_away : (x : X) (rest : List ℕ) → Front s v f bytes x rest → (w x → ⊥) → NoFront s w f bytes
  front_away x rest a h = record { none = λ y z k l e. h (subst w (a.only y z (weaker y k) l e).0 k) }

  -- where no value can be read, none of a narrower form can
  pub none_narrow : NoFront s v f bytes → NoFront s w f bytes
  none_narrow a = record { none = λ y z k l e. a.none y z (weaker y k) l e }

-- ---- what stops a reader

-- what stops the first reader stops both, one after the other
pub stop_first : {X Y : Type 0} (s : X → List ℕ) (v : X → Type 0) (f : List ℕ → Type 0) (t : Y → List ℕ) (w : Y → Type 0) (g : List ℕ → Type 0) → ((y : Y) (z : List ℕ) → w y → g z → f (t y ++ z)) → (bytes : List ℕ) (e : Stop) → Stops s v f bytes e → Stops (both s v f t w g) (BothFormed s v f t w g) g bytes e
stop_first s v f t w g on bytes Outside h = none_first s v f t w g on bytes h
stop_first s v f t w g on bytes Memory h = tt

-- what stops the second reader, behind what the first one read, stops both
pub stop_second : {X Y : Type 0} (s : X → List ℕ) (v : X → Type 0) (f : List ℕ → Type 0) (t : Y → List ℕ) (w : Y → Type 0) (g : List ℕ → Type 0) → ((y : Y) (z : List ℕ) → w y → g z → f (t y ++ z)) → (bytes : List ℕ) (x : X) (rest : List ℕ) → Front s v f bytes x rest → (e : Stop) → Stops t w g rest e → Stops (both s v f t w g) (BothFormed s v f t w g) g bytes e
stop_second s v f t w g on bytes x rest a Outside h = none_second s v f t w g on bytes x rest a h
stop_second s v f t w g on bytes x rest a Memory h = tt

-- what stops a reader stops one that tells the same as another type
pub stop_as : {X Y : Type 0} (s : X → List ℕ) (v : X → Type 0) (t : Y → List ℕ) (w : Y → Type 0) (to : X → Y) (from : Y → X) (f : List ℕ → Type 0) (bytes : List ℕ) → Retold s v t w to from → (e : Stop) → Stops s v f bytes e → Stops t w f bytes e
stop_as s v t w to from f bytes r Outside h = none_as s v t w to from f bytes r h
stop_as s v t w to from f bytes r Memory h = tt
