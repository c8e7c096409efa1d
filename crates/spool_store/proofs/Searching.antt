-- A search from the first place of an id on, in a list in order of id.
use Rattle.std.proofs.Common.{◌≡◌, ◌≢◌, ⊎_elim, ℕ, ◌+◌, ◌<◌, ◌≤◌, List, length, sym, ◌∙◌, ap, subst, arith, Contains}
use Rattle.std.specs.List.{slice_index_or}
use Rattle.std.specs.List.Sorted.{IsNonDecreasingBy}
use Rattle.std.proofs.lemmas.Bool.{cases_lt}
use Rattle.std.proofs.lemmas.List.{get_or_default}

-- what has a property has the number that is sought, so none is below
pub none_below : {X : Type 0} (n : X → ℕ) (P : X → Type 0) (xs : List X) (i m : ℕ) → ((x : X) → P x → n x ≡ m) → ((k : ℕ) (d : X) → k < i → n (slice_index_or xs k d) < m) → (k : ℕ) (d : X) → k < i → P (slice_index_or xs k d) → ⊥
none_below n P xs i m is below k d lt p = omega (arith, is (slice_index_or xs k d) p, below k d lt)

-- one more place
pub none_more : {X : Type 0} (P : X → Type 0) (xs : List X) (i : ℕ) (x : X) → i < length xs → x ≡ slice_index_or xs i x → (P x → ⊥) → ((k : ℕ) (d : X) → k < i → P (slice_index_or xs k d) → ⊥) → (k : ℕ) (d : X) → k < i + 1 → P (slice_index_or xs k d) → ⊥
none_more P xs i x within is not none k d lt p = ⊎_elim
    (λ (less : k < i). none k d less p)
    (λ (le : i ≤ k).
    let same : k ≡ i = omega (arith, lt, le) in
    let at : slice_index_or xs k d ≡ x = ap (λ (j : ℕ). slice_index_or xs j d) same ∙ get_or_default xs i d x within ∙ sym is in
    not (subst P at p))
    (cases_lt k i)

-- none in the whole list
pub none_all : {X : Type 0} (P : X → Type 0) (xs : List X) (i : ℕ) → length xs ≤ i → ((k : ℕ) (d : X) → k < i → P (slice_index_or xs k d) → ⊥) → (y : X) → Contains xs y → P y → ⊥
none_all P xs i le none y c p = none c.0 y (omega (arith, c.1, le)) (subst P (sym c.2) p)

-- none from a place on whose number is above the one that is sought
pub none_from : {X : Type 0} (n : X → ℕ) (P : X → Type 0) (xs : List X) (i m : ℕ) (x : X) → IsNonDecreasingBy n xs → ((y : X) → P y → n y ≡ m) → i < length xs → x ≡ slice_index_or xs i x → m < n x → ((k : ℕ) (d : X) → k < i → P (slice_index_or xs k d) → ⊥) → (y : X) → Contains xs y → P y → ⊥
none_from n P xs i m x order is within at above none y c p = ⊎_elim
    (λ (less : c.0 < i). none c.0 y less (subst P (sym c.2) p))
    (λ (le : i ≤ c.0).
    let up : n (slice_index_or xs i y) ≤ n (slice_index_or xs c.0 y) = order i c.0 y le c.1 in
    let here : n (slice_index_or xs i y) ≡ n x = ap n (get_or_default xs i y x within ∙ sym at) in
    omega (arith, up, here, above, ap n c.2, is y p))
    (cases_lt c.0 i)

-- above it, where it is not below and another
pub above_of : (m n : ℕ) → m ≤ n → n ≢ m → m < n
above_of m n le ne = ⊎_elim (λ (less : m < n). less) (λ (q : n ≤ m). absurd (ne (omega (arith, q, le)))) (cases_lt m n)
