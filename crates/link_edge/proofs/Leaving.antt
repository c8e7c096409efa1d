-- Sessions of which one is taken out.
use Rattle.std.proofs.Common.{◌≡◌, ℕ, ◌+◌, ◌≤◌, Bool, true, false, cond, not, ◌||◌, List, [], ◌∷◌, length, refl, sym, arith}
use Rattle.std.specs.Prelude.{nat_eq, filter}
use mathlib.Core.Bool.{true≢false}
use Rattle.std.proofs.lemmas.List.Filters.{length-filter_both}
use Rattle.link_edge.specs.Sessions.{is_among, without}

some_at : (b : Bool) (x : ℕ) (rest : List ℕ) (later : Bool) → (b || later) ≡ true → (later ≡ true → 1 ≤ length rest) → 1 ≤ length (cond b (x ∷ rest) rest)
some_at true x rest later h r = omega arith
some_at false x rest later h r = r h

-- what stands among these is found
some_found : (session : ℕ) (xs : List ℕ) → is_among session xs ≡ true → 1 ≤ length (filter (λ other. nat_eq other session) xs)
some_found session [] h = absurd (true≢false (sym h))
some_found session (x ∷ xs) h = some_at (nat_eq x session) x (filter (λ other. nat_eq other session) xs) (is_among session xs) h (some_found session xs)

-- fewer are left where a session was among them
pub without_fewer : (session : ℕ) (xs : List ℕ) → is_among session xs ≡ true → length (without session xs) + 1 ≤ length xs
without_fewer session xs h = omega (arith, some_found session xs h, length-filter_both (λ other. nat_eq other session) (λ other. not (nat_eq other session)) (λ x. refl) xs)
