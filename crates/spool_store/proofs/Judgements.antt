-- What is known of a control file once the files of a map are found.
use Rattle.std.proofs.Common.{◌≡◌, ◌≢◌, ⊎_elim, ℕ, ◌+◌, ◌<◌, ◌≤◌, List, [], ◌∷◌, ◌++◌, length, take, zero, suc, Option, Some, None, IsSome, refl, sym, ◌∙◌, ap, subst, arith, Contains, get_or}
use Rattle.std.specs.List.{AllZip}
use Rattle.std.specs.List.Sorted.{IsNonDecreasingBy}
use Rattle.std.proofs.lemmas.Bool.{cases_lt}
use Rattle.std.proofs.lemmas.List.{get_or_default, get_or-take, take_more, length-append}
use Rattle.mail_base.specs.declared.id.Kind.TheVariants.{Df, Sf}
use Rattle.mail_base.specs.declared.control.Control.{Control}
use Rattle.mail_base.specs.States.{NeedsBody}
use Rattle.spool_disk.specs.Disk.{FileMap}
use Rattle.spool_store.specs.Queue.{IsOpen, Spot, IsControl, IsRead, IsStrange, unread, twice, bodiless, reopened}
use Rattle.spool_store.specs.Verdicts.{IsSober}
use Rattle.spool_store.specs.inner.Judging.{IsVerdict, AreJudged}
use Rattle.spool_store.specs.declared.named.Named.{Named}
use Rattle.spool_store.specs.declared.named.Found.{Found}
use Rattle.spool_store.specs.declared.verdict.Verdict.{Verdict}
use Rattle.spool_store.specs.inner.Finds.{AreFound, AreNamed, IsFound, IsMeaning, spot_named}

none_by : (o : Option (List ℕ)) → (IsSome o → ⊥) → o ≡ None
none_by None h = refl
none_by (Some x) h = absurd (h refl)

there_not : (o : Option (List ℕ)) → IsSome o → o ≢ None
there_not None h e = cc h
there_not (Some x) h e = cc e

-- another file of the id
pub odd_twin : (dirs : List (List ℕ)) (f : FileMap) (found : List Found) (named : Named) (c : Control) → AreFound dirs f found → IsRead dirs f (spot_named dirs named) c → (y : Found) × Contains found y × (y.named.id ≡ named.id) × (spot_named dirs y.named ≢ spot_named dirs named) → IsStrange dirs f (spot_named dirs named)
odd_twin dirs f found named c h read y = let is = h.each y.0 y.1 in twice (spot_named dirs named) read.bytes read.there (record { other = spot_named dirs y.0.named; bytes = is.bytes; there = is.there; id = y.2; apart = y.3 })

-- its body isn't there
pub odd_body : (dirs : List (List ℕ)) (f : FileMap) (names : List Named) (named : Named) (c : Control) → named.dir < length dirs → AreNamed dirs f (length dirs) names → IsRead dirs f (spot_named dirs named) c → NeedsBody c × (Contains names (record { dir = named.dir; kind = Df; id = named.id }) → ⊥) → IsStrange dirs f (spot_named dirs named)
odd_body dirs f names named c own h read lacks = bodiless (spot_named dirs named) c read lacks.0 (none_by _ (λ some. lacks.1 (h.all named.dir Df named.id own read.there.spot.within some)))

-- a finished name with a control that is still open is strange
pub odd_open : (dirs : List (List ℕ)) (f : FileMap) (named : Named) (c : Control) → IsRead dirs f (spot_named dirs named) c → (named.kind ≡ Sf) × IsOpen c → IsStrange dirs f (spot_named dirs named)
odd_open dirs f named c read is = reopened (spot_named dirs named) c read is.0 is.1

-- none of these
pub sober_by : (dirs : List (List ℕ)) (f : FileMap) (names : List Named) (found : List Found) (named : Named) (c : Control) → AreNamed dirs f (length dirs) names → AreFound dirs f found → IsRead dirs f (spot_named dirs named) c
    → ((y : Found) → Contains found y → y.named.id ≡ named.id → spot_named dirs y.named ≡ spot_named dirs named) → (NeedsBody c → Contains names (record { dir = named.dir; kind = Df; id = named.id })) → (named.kind ≡ Sf → IsOpen c → ⊥) → IsSober dirs f (spot_named dirs named) c
sober_by dirs f names found named c hn hf read single body closed = record {
  read = read;
  single = λ twin.
      let y = hf.all twin.other twin.bytes twin.there in
      twin.apart (sym y.2 ∙ single y.0 y.1 (ap (λ (s : Spot). s.id) y.2 ∙ twin.id));
  body = λ needs. there_not _ (hn.each (record { dir = named.dir; kind = Df; id = named.id }) (body needs)).there;
  closed = closed;
}

-- bytes that say no control
pub odd_unread : (dirs : List (List ℕ)) (f : FileMap) (x : Found) → x.control ≡ None → IsFound dirs f x → IsStrange dirs f (spot_named dirs x.named)
odd_unread dirs f x e h = unread (spot_named dirs x.named) h.bytes h.there (subst (IsMeaning h.bytes) e h.means)

-- a control that was found is what its file says
pub read_by : (dirs : List (List ℕ)) (f : FileMap) (x : Found) (c : Control) → x.control ≡ Some c → IsFound dirs f x → IsRead dirs f (spot_named dirs x.named) c
read_by dirs f x c e h = record { bytes = h.bytes; there = h.there; says = subst (IsMeaning h.bytes) e h.means }

-- verdicts by their places
pub zip_push : {X Y : Type 0} (R : X → Y → Type 0) (xs : List X) (ys : List Y) (x : X) (y : Y) → AllZip R xs ys → R x y → AllZip R (xs ++ x ∷ []) (ys ++ y ∷ [])
zip_push R [] [] x y h r = (r, tt)
zip_push R [] (b ∷ ys) x y h r = absurd h
zip_push R (a ∷ xs) [] x y h r = absurd h
zip_push R (a ∷ xs) (b ∷ ys) x y h r = (h.0, zip_push R xs ys x y h.1 r)

-- lists that are related place by place are so at each place
pub zip_at : {X Y : Type 0} (R : X → Y → Type 0) (xs : List X) (ys : List Y) (k : ℕ) (d : X) (e : Y) → AllZip R xs ys → k < length ys → R (get_or xs k d) (get_or ys k e)
zip_at R [] [] k d e h lt = absurd (omega (arith, lt))
zip_at R [] (b ∷ ys) k d e h lt = absurd h
zip_at R (a ∷ xs) [] k d e h lt = absurd h
zip_at R (a ∷ xs) (b ∷ ys) zero d e h lt = h.0
zip_at R (a ∷ xs) (b ∷ ys) (suc k) d e h lt = zip_at R xs ys k d e h.1 (let z : length (b ∷ ys) ≡ suc (length ys) = refl in omega (arith, lt, z))

-- no control file has that id
pub none_above : (dirs : List (List ℕ)) (f : FileMap) (found : List Found) (id : ℕ) → AreFound dirs f found → ((y : Found) → Contains found y → y.named.id ≢ id) → (a : Spot) (b : List ℕ) → IsControl dirs f a b → a.id ≢ id
none_above dirs f found id h none a b there e = let y = h.all a b there in none y.0 y.1 (ap (λ (s : Spot). s.id) y.2 ∙ e)

-- the verdict at a place that is judged
pub verdict_at : (dirs : List (List ℕ)) (f : FileMap) (found : List Found) (verdicts : List Verdict) (k : ℕ) (d : Found) (v : Verdict) → AreJudged dirs f (take (length verdicts) found) verdicts → k < length verdicts → IsVerdict dirs f (spot_named dirs (get_or found k d).named) (get_or verdicts k v)
verdict_at dirs f found verdicts k d v h lt =
    subst (λ (x : Found). IsVerdict dirs f (spot_named dirs x.named) (get_or verdicts k v)) (get_or-take (length verdicts) found k d lt)
    (zip_at (λ x w. IsVerdict dirs f (spot_named dirs x.named) w) (take (length verdicts) found) verdicts k d v h lt)

-- some item
pub an_item : {X : Type 0} (xs : List X) (k : ℕ) → k < length xs → X
an_item [] k lt = absurd (omega (arith, lt))
an_item (x ∷ xs) k lt = x

-- what is below in id stands before
pub stands_before : (found : List Found) (i k : ℕ) (x d : Found) → IsNonDecreasingBy (λ (y : Found). y.named.id) found → i < length found → k < length found → x ≡ get_or found i x → (get_or found k d).named.id < x.named.id → k < i
stands_before found i k x d order within lt is less = ⊎_elim
    (λ (before : k < i). before)
    (λ (le : i ≤ k). absurd (omega (arith, order i k d le lt, less, ap (λ (y : Found). y.named.id) (is ∙ get_or_default found i x d within))))
    (cases_lt k i)

-- one more verdict
pub judged_more : (dirs : List (List ℕ)) (f : FileMap) (found : List Found) (verdicts new : List Verdict) (i : ℕ) (x : Found) (v : Verdict) → i < length found → x ≡ get_or found i x → new ≡ verdicts ++ v ∷ [] → AreJudged dirs f (take i found) verdicts → IsVerdict dirs f (spot_named dirs x.named) v → AreJudged dirs f (take (i + 1) found) new
judged_more dirs f found verdicts new i x v lt is e h k =
    let more : take (i + 1) found ≡ take i found ++ x ∷ [] = take_more found i x lt ∙ ap (λ (y : Found). take i found ++ y ∷ []) (sym is) in
    rw e (rw more (zip_push (λ y w. IsVerdict dirs f (spot_named dirs y.named) w) (take i found) verdicts x v h k))

-- a control file at a place of what was found is in it
pub found_in : (found : List Found) (i : ℕ) (x : Found) → i < length found → x ≡ get_or found i x → Contains found x
found_in found i x lt is = (i, lt, sym is)

-- a list with one more behind it is one longer
pub one_longer : {X : Type 0} (old new : List X) (x : X) → new ≡ old ++ x ∷ [] → length new ≡ length old + 1
one_longer old new x e = ap length e ∙ length-append old (x ∷ [])
