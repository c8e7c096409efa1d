-- The names of the files in a directory, sorted and each once.
use Rattle.std.proofs.Common.{◌≡◌, ⊎_elim, ℕ, List, [], ◌∷◌, sym, subst, arith}
use Rattle.std.specs.Prelude.{nat_eq}
use Rattle.std.specs.List.{Contains, dedup}
use Rattle.std.specs.List.Sorted.{IsPermutation, IsSorted}
use Rattle.std.specs.Ordering.{nat_cmp}
use Rattle.std.specs.Cmp.Lexicographic.{slice_cmp, pointwise, bytes_decides, texts_ties, nat_list_cmp_total, nat_list_eq_equiv}
use Rattle.std.proofs.lemmas.List.Elements.{Contains-push_cases}
use Rattle.std.proofs.lemmas.List.Kept.{IsStrictlySortedBy-dedup, Contains-dedup, Contains-from_dedup}
use Rattle.std.proofs.lemmas.List.Sorted.{Contains-permutation, IsPermutation-sym}
use Rattle.spool_disk.specs.Listings.{IsAscending, AreSameNames}

-- an empty list contains nothing
pub nothing_there : {X : Type 0} (y : X) → Contains [] y → ⊥
nothing_there y h = omega (arith, h.1)

-- a list of one item contains no other
pub one_only : {X : Type 0} (x y : X) → Contains (x ∷ []) y → x ≡ y
one_only x y h = ⊎_elim (λ k. absurd (nothing_there y k)) (λ e. e) (Contains-push_cases [] x y h)

-- names that were sorted, and then each taken once
pub sorted_once : (names sorted last : List (List ℕ)) → IsPermutation names sorted → IsSorted (slice_cmp nat_cmp) sorted → last ≡ dedup (pointwise nat_eq) sorted → IsAscending last × AreSameNames names last
sorted_once names sorted last moved up once = (
  rw once (IsStrictlySortedBy-dedup nat_list_cmp_total texts_ties sorted up),
  λ name. (
    λ h. subst (λ q. Contains q name) (sym once) (Contains-dedup nat_list_eq_equiv (λ x y e. (bytes_decides x y).0 e) sorted name (Contains-permutation names sorted name moved h)),
    λ h. Contains-permutation sorted names name (IsPermutation-sym names sorted moved) (Contains-from_dedup (pointwise nat_eq) sorted name (subst (λ q. Contains q name) once h)),
  ),
)
