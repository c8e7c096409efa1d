-- The strays that are told are the files that are left alone.
use Rattle.std.proofs.Common.{◌≡◌, inl, inr, ⊎_elim, ℕ, ◌+◌, ◌<◌, List, [], ◌∷◌, ◌++◌, length, take, get_or, IsSome, sym, ◌∙◌, ap, subst, Contains}
use Rattle.std.proofs.lemmas.List.{take_more}
use Rattle.std.proofs.lemmas.List.Elements.{Contains-append_left, Contains-push, Contains-push_cases}
use Rattle.mail_base.specs.declared.control.Stray.{Stray}
use Rattle.mail_base.specs.Names.{name_of}
use Rattle.spool_disk.specs.Disk.{FileMap, bytes_at}
use Rattle.spool_store.specs.Queue.{Spot, IsStrange}
use Rattle.spool_store.specs.Openings.{AreStrays, IsStray, other_name, strange_file}
use Rattle.spool_store.specs.declared.named.Found.{Found}
use Rattle.spool_store.specs.inner.Finds.{AreForeign, AreFound, spot_named}
use Rattle.spool_store.specs.inner.Telling.{AreShown, stray_found}
use Rattle.spool_store.proofs.Finding.{none_in}
use Rattle.spool_store.proofs.Carrying.{strange_control}
use Rattle.spool_store.proofs.Readings.{dir_among, dir_numbered}

-- of no control files no stray is shown
pub shown_none : (dirs : List (List ℕ)) (f : FileMap) (before : List Stray) → AreShown dirs f before [] before
shown_none dirs f before = record { each = λ w c. inl c; kept = λ w c. c; all = λ x c k. absurd (none_in x c) }

-- a control file that isn't strange adds no stray
pub shown_skip : (dirs : List (List ℕ)) (f : FileMap) (before : List Stray) (found : List Found) (x : Found) (out : List Stray) → (IsStrange dirs f (spot_named dirs x.named) → ⊥) → AreShown dirs f before found out → AreShown dirs f before (found ++ x ∷ []) out
shown_skip dirs f before found x out plain h = record {
  each = h.each;
  kept = h.kept;
  all = λ y c k. ⊎_elim (λ (was : Contains found y). h.all y was k) (λ (q : x ≡ y). absurd (plain (subst (λ (z : Found). IsStrange dirs f (spot_named dirs z.named)) (sym q) k))) (Contains-push_cases found x y c);
}

-- a strange control file adds its stray
pub shown_more : (dirs : List (List ℕ)) (f : FileMap) (before : List Stray) (found : List Found) (x : Found) (out new : List Stray) → IsStrange dirs f (spot_named dirs x.named) → new ≡ out ++ stray_found dirs x ∷ [] → AreShown dirs f before found out → AreShown dirs f before (found ++ x ∷ []) new
shown_more dirs f before found x out new strange e h = rw e (record {
  each = λ w c. ⊎_elim (λ (was : Contains out w). h.each w was) (λ (q : stray_found dirs x ≡ w). inr (x, strange, q)) (Contains-push_cases out (stray_found dirs x) w c);
  kept = λ w c. Contains-append_left out (stray_found dirs x ∷ []) w (h.kept w c);
  all = λ y c k. ⊎_elim
      (λ (was : Contains found y). Contains-append_left out (stray_found dirs x ∷ []) (stray_found dirs y) (h.all y was k))
      (λ (q : x ≡ y). subst (λ (z : Found). Contains (out ++ stray_found dirs x ∷ []) (stray_found dirs z)) q (Contains-push out (stray_found dirs x)))
      (Contains-push_cases found x y c);
})

-- the strays shown of the first so many and the next are those of one more
pub shown_next : (dirs : List (List ℕ)) (f : FileMap) (before : List Stray) (found : List Found) (i : ℕ) (x : Found) (out : List Stray) → i < length found → x ≡ get_or found i x → AreShown dirs f before (take i found ++ x ∷ []) out → AreShown dirs f before (take (i + 1) found) out
shown_next dirs f before found i x out lt is h = subst (λ (q : List Found). AreShown dirs f before q out) (sym (take_more found i x lt ∙ ap (λ (y : Found). take i found ++ y ∷ []) (sym is))) h

all_by : (dirs : List (List ℕ)) (f : FileMap) (before : List Stray) (found : List Found) (out : List Stray) → AreForeign dirs f (length dirs) before → AreFound dirs f found → AreShown dirs f before found out → (x : Stray) → IsStray dirs f x → Contains out x
all_by dirs f before found out hb hf h x (other_name among other there) =
    let i = dir_numbered dirs x.dir among in
    let c = hb.all i.0 x.name i.1 other (subst (λ (d : List ℕ). IsSome (bytes_at f (d, x.name))) (sym i.2) there) in
    h.kept x (subst (λ (d : List ℕ). Contains before (record { dir = d; name = x.name })) i.2 c)
all_by dirs f before found out hb hf h x (strange_file s k d n) =
    let y = hf.all s (strange_control k).0 (strange_control k).1 in
    let c = h.all y.0 y.1 (subst (IsStrange dirs f) (sym y.2) k) in
    subst (λ (w : Stray). Contains out w) (λ i. record { dir = (ap (λ (w : Spot). w.dir) y.2 ∙ d) i; name = (ap (λ (w : Spot). name_of w.kind w.id) y.2 ∙ n) i }) c

-- all of them
pub shown_strays : (dirs : List (List ℕ)) (f : FileMap) (before : List Stray) (found : List Found) (out : List Stray) → AreForeign dirs f (length dirs) before → AreFound dirs f found → AreShown dirs f before found out → AreStrays dirs f out
shown_strays dirs f before found out hb hf h = record {
  each = λ w c. ⊎_elim
      (λ (was : Contains before w). let t = hb.each w was in other_name (subst (Contains dirs) (sym t.dir) (dir_among dirs t.number t.before)) t.other t.there)
      (λ (y : (x : Found) × IsStrange dirs f (spot_named dirs x.named) × (stray_found dirs x ≡ w)). strange_file (spot_named dirs y.0.named) y.1 (ap (λ (z : Stray). z.dir) y.2) (ap (λ (z : Stray). z.name) y.2))
      (h.each w c);
  all = all_by dirs f before found out hb hf h;
}
