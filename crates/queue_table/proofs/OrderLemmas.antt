-- Entries by their priorities and ids are in a strict total order.
use Rattle.std.proofs.Common.{◌≡◌, ◌≢◌, ◌⊎◌, inl, inr, ⊎_elim, ℕ, ℤ, ◌<ℤ◌, ◌≤ℤ◌, ◌<◌, ◌≤◌, sym, ◌∙◌, subst, arith}
use Rattle.std.proofs.lemmas.Int.{ints, by_lt_z}
use Rattle.std.proofs.lemmas.Bool.{cases_lt}

pub not_itself : (p : ℤ) (i : ℕ) → (p <ℤ p) ⊎ ((p ≡ p) × (i < i)) → ⊥
not_itself p i h = ⊎_elim (λ (l : p <ℤ p). omega (arith, ints, l)) (λ (e : (p ≡ p) × (i < i)). omega (arith, e.1)) h

z_trans : (p q r : ℤ) → p <ℤ q → q <ℤ r → p <ℤ r
z_trans p q r h k = omega (arith, ints, h, k)

pub goes_on : (p q r : ℤ) (i j k : ℕ) → (p <ℤ q) ⊎ ((p ≡ q) × (i < j)) → (q <ℤ r) ⊎ ((q ≡ r) × (j < k)) → (p <ℤ r) ⊎ ((p ≡ r) × (i < k))
goes_on p q r i j k h m = ⊎_elim
    (λ (l : p <ℤ q). ⊎_elim
    (λ (n : q <ℤ r). inl (z_trans p q r l n))
    (λ (e : (q ≡ r) × (j < k)). inl (subst (λ (z : ℤ). p <ℤ z) e.0 l))
    m)
    (λ (e : (p ≡ q) × (i < j)). ⊎_elim
    (λ (n : q <ℤ r). inl (subst (λ (z : ℤ). z <ℤ r) (sym e.0) n))
    (λ (f : (q ≡ r) × (j < k)). inr (e.0 ∙ f.0, omega (arith, e.1, f.1)))
    m)
    h

same_z : (p q : ℤ) → p ≤ℤ q → q ≤ℤ p → p ≡ q
same_z p q h k = omega (arith, ints, h, k)

pub one_first : (p q : ℤ) (i j : ℕ) → i ≢ j → ((p <ℤ q) ⊎ ((p ≡ q) × (i < j))) ⊎ ((q <ℤ p) ⊎ ((q ≡ p) × (j < i)))
one_first p q i j apart = by_lt_z p q (λ lt. inl (inl lt))
    (λ (le : q ≤ℤ p). by_lt_z q p (λ gt. inr (inl gt))
    (λ (ge : p ≤ℤ q). ⊎_elim
    (λ (lt : i < j). inl (inr (same_z p q ge le, lt)))
    (λ (nl : j ≤ i). inr (inr (same_z q p le ge, omega (arith, nl, apart))))
    (cases_lt i j)))
