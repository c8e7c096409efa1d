-- Children of which one is taken out.
use Rattle.std.proofs.Common.{◌≡◌, ℕ, ◌+◌, ◌≤◌, Bool, true, false, cond, not, ◌||◌, List, [], ◌∷◌, length, refl, sym, arith}
use Rattle.std.specs.Prelude.{nat_eq, filter}
use mathlib.Core.Bool.{true≢false}
use Rattle.std.proofs.lemmas.List.Filters.{length-filter_both}
use Rattle.spawn_edge.specs.Children.{is_among, without}

some_at : (b : Bool) (x : ℕ) (rest : List ℕ) (later : Bool) → (b || later) ≡ true → (later ≡ true → 1 ≤ length rest) → 1 ≤ length (cond b (x ∷ rest) rest)
some_at true x rest later h r = omega arith
some_at false x rest later h r = r h

-- what stands among these is found
some_found : (child : ℕ) (xs : List ℕ) → is_among child xs ≡ true → 1 ≤ length (filter (λ other. nat_eq other child) xs)
some_found child [] h = absurd (true≢false (sym h))
some_found child (x ∷ xs) h = some_at (nat_eq x child) x (filter (λ other. nat_eq other child) xs) (is_among child xs) h (some_found child xs)

-- fewer are left where a child was among them
pub without_fewer : (child : ℕ) (xs : List ℕ) → is_among child xs ≡ true → length (without child xs) + 1 ≤ length xs
without_fewer child xs h = omega (arith, some_found child xs h, length-filter_both (λ other. nat_eq other child) (λ other. not (nat_eq other child)) (λ x. refl) xs)
