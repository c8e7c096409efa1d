-- Texts in order: what a sort gives, that each list of texts has a listing, and that it has one
-- alone.
use Rattle.std.proofs.Common.{◌≡◌, ◌⊎◌, ⊎_elim, ℕ, suc, List, [], ◌∷◌, refl, sym, ap, ◌∙◌, subst, arith, Ordering, Less, Equal, Greater, inl, inr}
use Rattle.std.specs.Prelude.{nat_eq}
use Rattle.std.specs.List.{Contains, AllByRecursion, dedup}
use Rattle.std.specs.List.Sorted.{IsPermutation, IsSorted, IsStrictlySortedBy}
use Rattle.std.specs.Ordering.{nat_cmp, ordering_reverse, is_eq}
use Rattle.std.specs.Cmp.{tied_itself}
use Rattle.std.specs.Cmp.Lexicographic.{slice_cmp, pointwise, bytes_decides, texts_ties, nat_list_cmp_total, nat_list_eq_equiv}
use Rattle.std.proofs.lemmas.List.Elements.{All-contains, All-from_recursion, Contains-append_cases, Contains-push_cases}
use Rattle.std.proofs.lemmas.List.Kept.{IsStrictlySortedBy-dedup, Contains-dedup, Contains-from_dedup}
use Rattle.std.proofs.lemmas.List.Sorted.{Contains-permutation, IsPermutation-sym}
use Rattle.addr_test.specs.Words.{IsListing}

abbrev by_bytes : List ℕ → List ℕ → Ordering
by_bytes one another = slice_cmp nat_cmp one another

abbrev Texts : Type 0
Texts = List (List ℕ)

-- texts that were sorted, and then each taken once
pub sorted_once : (texts sorted last : Texts) → IsPermutation texts sorted → IsSorted by_bytes sorted → last ≡ dedup (pointwise nat_eq) sorted → IsListing texts last
sorted_once texts sorted last moved up once = record {
  ascending = rw once (IsStrictlySortedBy-dedup nat_list_cmp_total texts_ties sorted up);
  same = λ text. (
    λ h. subst (λ q. Contains q text) (sym once) (Contains-dedup nat_list_eq_equiv (λ x y e. (bytes_decides x y).0 e) sorted text (Contains-permutation texts sorted text moved h)),
    λ h. Contains-permutation sorted texts text (IsPermutation-sym texts sorted moved) (Contains-from_dedup (pointwise nat_eq) sorted text (subst (λ q. Contains q text) once h)),
  );
}

-- ---- members of lists

nothing_in : (text : List ℕ) → Contains [] text → ⊥
nothing_in text h = omega (arith, h.1)

first_in : (x : List ℕ) (xs : Texts) → Contains (x ∷ xs) x
first_in x xs = (0, omega arith, refl)

later_in : (x y : List ℕ) (xs : Texts) → Contains xs y → Contains (x ∷ xs) y
later_in x y xs h = (suc h.0, omega (arith, h.1), h.2)

which : (x y : List ℕ) (xs : Texts) → Contains (x ∷ xs) y → (x ≡ y) ⊎ Contains xs y
which x y xs h = ⊎_elim (λ one. ⊎_elim (λ none. absurd (nothing_in y none)) (λ e. inl e) (Contains-push_cases [] x y one)) (λ k. inr k) (Contains-append_cases (x ∷ []) xs y h)

below : (x y : List ℕ) (xs : Texts) → AllByRecursion (λ z. by_bytes x z ≡ Less) xs → Contains xs y → by_bytes x y ≡ Less
below x y xs all h = All-contains (λ z. by_bytes x z ≡ Less) xs y (All-from_recursion (λ z. by_bytes x z ≡ Less) xs all) h

-- ---- one listing alone

not_both : (o : Ordering) → o ≡ Less → o ≡ ordering_reverse Less → ⊥
not_both Less e f = cc f
not_both Equal e f = cc e
not_both Greater e f = cc e

apart : (x y : List ℕ) → by_bytes x y ≡ Less → by_bytes y x ≡ Less → ⊥
apart x y e f = not_both (by_bytes x y) e (nat_list_cmp_total.antisymm x y ∙ ap ordering_reverse f)

not_equal : (o : Ordering) → o ≡ Less → o ≡ Equal → ⊥
not_equal Less e f = cc f
not_equal Equal e f = cc e
not_equal Greater e f = cc e

not_itself : (x y : List ℕ) → x ≡ y → by_bytes x y ≡ Less → ⊥
not_itself x y same e = not_equal (by_bytes x y) e (subst (λ (z : List ℕ). by_bytes x z ≡ Equal) same (tied_itself nat_list_cmp_total x))

abbrev Within : Texts → Texts → Type 0
Within xs ys = (text : List ℕ) → Contains xs text → Contains ys text

heads : (x y : List ℕ) (xs ys : Texts) → AllByRecursion (λ z. by_bytes x z ≡ Less) xs → AllByRecursion (λ z. by_bytes y z ≡ Less) ys → Within (x ∷ xs) (y ∷ ys) → Within (y ∷ ys) (x ∷ xs) → x ≡ y
heads x y xs ys a b f g =
    ⊎_elim (λ e. sym e)
    (λ later. ⊎_elim (λ e. e) (λ more. absurd (apart x y (below x y xs a more) (below y x ys b later))) (which x y xs (g y (first_in y ys))))
    (which y x ys (f x (first_in x xs)))

tails : (x y : List ℕ) (xs ys : Texts) → x ≡ y → AllByRecursion (λ z. by_bytes x z ≡ Less) xs → Within (x ∷ xs) (y ∷ ys) → Within xs ys
tails x y xs ys same a f text h = ⊎_elim (λ e. absurd (not_itself x text (same ∙ e) (below x text xs a h))) (λ k. k) (which y text ys (f text (later_in x text xs h)))

two_lists : (xs ys : Texts) → IsStrictlySortedBy by_bytes xs → IsStrictlySortedBy by_bytes ys → Within xs ys → Within ys xs → xs ≡ ys
unfolding IsStrictlySortedBy
two_lists [] [] a b f g = refl
two_lists [] (y ∷ ys) a b f g = absurd (nothing_in y (g y (first_in y ys)))
two_lists (x ∷ xs) [] a b f g = absurd (nothing_in x (f x (first_in x xs)))
two_lists (x ∷ xs) (y ∷ ys) a b f g =
    let same : x ≡ y = heads x y xs ys a.0 b.0 f g in
    let rest : xs ≡ ys = two_lists xs ys a.1 b.1 (tails x y xs ys same a.0 f) (tails y x ys xs (sym same) b.0 g) in
    λ i. same i ∷ rest i

-- texts have one listing
pub one_listing : (texts one another : Texts) → IsListing texts one → IsListing texts another → one ≡ another
one_listing texts one another a b =
    two_lists one another a.ascending b.ascending (λ text h. (b.same text).0 ((a.same text).1 h)) (λ text h. (a.same text).0 ((b.same text).1 h))

-- ---- each list of texts has a listing

put_by : Ordering → List ℕ → List ℕ → Texts → Texts → Texts
put_by Less text x xs more = text ∷ x ∷ xs
put_by Equal text x xs more = x ∷ xs
put_by Greater text x xs more = x ∷ more

-- the text in its place, unless it is there
put_in : List ℕ → Texts → Texts
put_in text [] = text ∷ []
put_in text (x ∷ xs) = put_by (by_bytes text x) text x xs (put_in text xs)

all_weaker : (P Q : List ℕ → Type 0) → ((z : List ℕ) → P z → Q z) → (xs : Texts) → AllByRecursion P xs → AllByRecursion Q xs
all_weaker P Q f [] h = tt
all_weaker P Q f (x ∷ xs) h = (f x h.0, all_weaker P Q f xs h.1)

all_put : (P : List ℕ → Type 0) (text : List ℕ) → P text → (xs : Texts) → AllByRecursion P xs → AllByRecursion P (put_in text xs)
unfolding put_in put_by
all_put P text p [] h = (p, tt)
all_put P text p (x ∷ xs) h = by (by_bytes text x) (all_put P text p xs h.1) where
  by : (o : Ordering) → AllByRecursion P (put_in text xs) → AllByRecursion P (put_by o text x xs (put_in text xs))
  by Less more = (p, h)
  by Equal more = h
  by Greater more = (h.0, more)

rises_put : (text : List ℕ) (xs : Texts) → IsStrictlySortedBy by_bytes xs → IsStrictlySortedBy by_bytes (put_in text xs)
unfolding IsStrictlySortedBy put_in put_by
rises_put text [] h = (tt, tt)
rises_put text (x ∷ xs) h = by (by_bytes text x) refl (rises_put text xs h.1) where
  by : (o : Ordering) → by_bytes text x ≡ o → IsStrictlySortedBy by_bytes (put_in text xs) → IsStrictlySortedBy by_bytes (put_by o text x xs (put_in text xs))
  by Less e rec = ((e, all_weaker (λ z. by_bytes x z ≡ Less) (λ z. by_bytes text z ≡ Less) (λ z f. nat_list_cmp_total.trans text x z e f) xs h.0), h)
  by Equal e rec = h
  by Greater e rec = (all_put (λ z. by_bytes x z ≡ Less) text (nat_list_cmp_total.antisymm x text ∙ ap ordering_reverse e) xs h.0, rec)

equal_is : (x y : List ℕ) → by_bytes x y ≡ Equal → x ≡ y
equal_is x y e = (bytes_decides x y).0 (texts_ties x y ∙ ap is_eq e)

-- what is in the list behind a text is in that with the text put in, and the other way round
into_put : (text : List ℕ) (xs : Texts) → Within (text ∷ xs) (put_in text xs)
unfolding put_in put_by
into_put text [] = λ t h. h
into_put text (x ∷ xs) = by (by_bytes text x) refl (into_put text xs) where
  by : (o : Ordering) → by_bytes text x ≡ o → Within (text ∷ xs) (put_in text xs) → Within (text ∷ x ∷ xs) (put_by o text x xs (put_in text xs))
  by Less e rec = λ t h. h
  by Equal e rec = λ t h. ⊎_elim (λ f. subst (Contains (x ∷ xs)) (sym (equal_is text x e) ∙ f) (first_in x xs)) (λ k. k) (which text t (x ∷ xs) h)
  by Greater e rec = λ t h.
      ⊎_elim (λ f. later_in x t (put_in text xs) (rec t (subst (Contains (text ∷ xs)) f (first_in text xs))))
      (λ k. ⊎_elim (λ f. subst (Contains (x ∷ put_in text xs)) f (first_in x (put_in text xs))) (λ m. later_in x t (put_in text xs) (rec t (later_in text t xs m))) (which x t xs k))
      (which text t (x ∷ xs) h)

out_of_put : (text : List ℕ) (xs : Texts) → Within (put_in text xs) (text ∷ xs)
unfolding put_in put_by
out_of_put text [] = λ t h. h
out_of_put text (x ∷ xs) = by (by_bytes text x) (out_of_put text xs) where
  by : (o : Ordering) → Within (put_in text xs) (text ∷ xs) → Within (put_by o text x xs (put_in text xs)) (text ∷ x ∷ xs)
  by Less rec = λ t h. h
  by Equal rec = λ t h. later_in text t (x ∷ xs) h
  by Greater rec = λ t h.
      ⊎_elim (λ f. later_in text t (x ∷ xs) (subst (Contains (x ∷ xs)) f (first_in x xs)))
      (λ k. ⊎_elim (λ f. subst (Contains (text ∷ x ∷ xs)) f (first_in text (x ∷ xs))) (λ m. later_in text t (x ∷ xs) (later_in x t xs m)) (which text t xs (rec t k)))
      (which x t (put_in text xs) h)

behind_first : (text : List ℕ) (xs ys : Texts) → Within xs ys → Within (text ∷ xs) (text ∷ ys)
behind_first text xs ys f = λ t h. ⊎_elim (λ e. subst (Contains (text ∷ ys)) e (first_in text ys)) (λ k. later_in text t ys (f t k)) (which text t xs h)

-- any texts have a listing
pub some_listing : (texts : Texts) → (listed : Texts) × IsListing texts listed
unfolding IsStrictlySortedBy
some_listing [] = ([], record { ascending = tt; same = λ text. (λ h. h, λ h. h) })
some_listing (text ∷ texts) =
    let rest = some_listing texts in (
      put_in text rest.0,
      record {
        ascending = rises_put text rest.0 rest.1.ascending;
        same = λ t. (
          λ h. into_put text rest.0 t (behind_first text texts rest.0 (λ u k. (rest.1.same u).0 k) t h),
          λ h. behind_first text rest.0 texts (λ u k. (rest.1.same u).1 k) t (out_of_put text rest.0 t h),
        );
      },
    )
