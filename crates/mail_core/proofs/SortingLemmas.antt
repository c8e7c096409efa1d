-- What was sorted by priorities and ids is in the order in which entries go.
use Rattle.std.proofs.Common.{Bor, ◌≡◌, ◌⊎◌, inl, inr, ℕ, ℤ, ◌<ℤ◌, ◌<◌, List, [], ◌∷◌, length, map, Bool, true, false, refl, sym, ◌∙◌, ap, subst, arith, Less, Equal, Greater}
use Rattle.std.specs.List.{AllPairs, slice_index_or}
use Rattle.std.specs.List.Sorted.{IsSortedBy}
use Rattle.std.specs.Ordering.{MatchOrdering, int_cmp, is_lt, nat_cmp, ordering_then}
use Rattle.std.specs.declared.cmp.Ordering.{Ordering}
use Rattle.std.specs.Cmp.{IsTotalOrder, int_cmp_total, nat_cmp_total, on_total, then_total}
use Rattle.std.proofs.lemmas.Cmp.{int_ranked, ranked}
use Rattle.std.proofs.lemmas.Int.{ints}
use Rattle.std.proofs.lemmas.List.{get_or-map, length-map}
use Rattle.std.proofs.lemmas.List.Sorted.{ranks_by, sorted_far}
use Rattle.spool_store.specs.declared.held.Held.{Held}
use Rattle.mail_core.specs.inner.Fixing.{GoesOn}

z_less : (p q : ℤ) (o : Ordering) → MatchOrdering o (p <ℤ q) (p ≡ q) (q <ℤ p) → p <ℤ q → o ≡ Less
z_less p q Less m lt = refl
z_less p q Equal m lt = absurd (omega (arith, ints, m, lt))
z_less p q Greater m lt = absurd (omega (arith, ints, m, lt))

z_tied : (p q : ℤ) (o : Ordering) → MatchOrdering o (p <ℤ q) (p ≡ q) (q <ℤ p) → p ≡ q → o ≡ Equal
z_tied p q Less m e = absurd (omega (arith, ints, m, e))
z_tied p q Equal m e = refl
z_tied p q Greater m e = absurd (omega (arith, ints, m, e))

n_less : (i j : ℕ) (o : Ordering) → MatchOrdering o (i < j) (i ≡ j) (j < i) → i < j → o ≡ Less
n_less i j Less m lt = refl
n_less i j Equal m lt = absurd (omega (arith, m, lt))
n_less i j Greater m lt = absurd (omega (arith, m, lt))

-- what goes before is less
before_less : (p q : ℤ) (i j : ℕ) → (p <ℤ q) ⊎ ((p ≡ q) × (i < j)) → is_lt (ordering_then (int_cmp p q) (nat_cmp i j)) ≡ true
before_less p q i j (inl lt) = ap (λ (o : Ordering). is_lt (ordering_then o (nat_cmp i j))) (z_less p q (int_cmp p q) (int_ranked p q (int_cmp p q) refl) lt)
before_less p q i j (inr e) = ap (λ (o : Ordering). is_lt (ordering_then o (nat_cmp i j))) (z_tied p q (int_cmp p q) (int_ranked p q (int_cmp p q) refl) e.0) ∙ ap is_lt (n_less i j (nat_cmp i j) (ranked i j (nat_cmp i j) refl) e.1)

-- the keys of the sort
abbrev pub key_of : Held → ℤ × ℕ
key_of h = (h.entry.control.priority, h.entry.id)

abbrev pub key_cmp : ℤ × ℕ → ℤ × ℕ → Ordering
key_cmp x y = ordering_then (int_cmp x.0 y.0) (nat_cmp x.1 y.1)

abbrev pub comes_first : Bor Held → Bor Held → Bool
comes_first one other = is_lt (key_cmp (key_of one.now) (key_of other.now))

keys_total : IsTotalOrder key_cmp
keys_total = then_total (on_total (λ (p : ℤ × ℕ). p.0) int_cmp_total) (on_total (λ (p : ℤ × ℕ). p.1) nat_cmp_total)

may_follow : (one other : Held) → is_lt (key_cmp (key_of other) (key_of one)) ≡ false → GoesOn one other
may_follow one other greater before =
    let less = before_less other.entry.control.priority one.entry.control.priority other.entry.id one.entry.id before in
    let both : true ≡ false = sym less ∙ greater in
    absurd (cc both)

abbrev pub at_now : Bor Held → Held
at_now b = b.now

follows_at : (xs : List (Bor Held)) (i j : ℕ) (b : Bor Held) (d : Held) → i < length xs → j < length xs → comes_first (slice_index_or xs j b) (slice_index_or xs i b) ≡ false → GoesOn (slice_index_or (map at_now xs) i d) (slice_index_or (map at_now xs) j d)
follows_at xs i j b d li lj greater =
    subst (λ (h : Held). GoesOn h (slice_index_or (map at_now xs) j d)) (sym (get_or-map at_now xs i b d li))
    (subst (λ (h : Held). GoesOn (slice_index_or xs i b).now h) (sym (get_or-map at_now xs j b d lj)) (may_follow (slice_index_or xs i b).now (slice_index_or xs j b).now greater))

goes_by : (xs : List (Bor Held)) → IsSortedBy comes_first xs → (i j : ℕ) (d : Held) → i < j → j < length xs → GoesOn (slice_index_or (map at_now xs) i d) (slice_index_or (map at_now xs) j d)
goes_by [] up i j d lt le = absurd (omega (arith, le))
goes_by (x ∷ xs) up i j d lt le =
    follows_at (x ∷ xs) i j x d (omega (arith, lt, le)) le (sorted_far comes_first (ranks_by keys_total (λ (b : Bor Held). key_of b.now)) (x ∷ xs) up i j x (omega (arith, lt)) le)

-- what was sorted by the keys is in order
pub goes_on : (xs : List (Bor Held)) → IsSortedBy comes_first xs → AllPairs GoesOn (map (λ (h : Bor Held). h.now) xs)
goes_on xs up i j d lt le = goes_by xs up i j d lt (omega (arith, le, length-map xs at_now))
