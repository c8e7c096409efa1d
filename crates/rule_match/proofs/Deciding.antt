-- Each list of tokens has a match that is taken, or none fits.
use Rattle.std.proofs.Common.{◌≡◌, ℕ, ◌+◌, ◌<◌, ◌≤◌, ◌⊎◌, inl, inr, List, [], ◌∷◌, length, take, drop, Bool, true, false, zero, suc, refl, subst, arith}
use Rattle.std.proofs.lemmas.Bool.{cases_lt, cases_eq, both_ways}
use Rattle.mail_base.specs.declared.token.Token.{Token}
use Rattle.rule_match.specs.Wants.{Want, meets}
use Rattle.rule_match.specs.Choices.{Fits, Chosen}
use Rattle.rule_match.specs.inner.Steps.{IsNext}
use Rattle.rule_match.proofs.Choosing.{choice_more}

abbrev pub Decided : List Want → List Token → Type 0
Decided wants tokens = ((lengths : List ℕ) × Chosen wants tokens lengths) ⊎ ((lengths : List ℕ) → Fits wants tokens lengths → ⊥)

module _ (want : Want) (wants : List Want) (tokens : List Token) (rest : (n : ℕ) → Decided wants (drop n tokens)) where
  -- no length below this one
  abbrev NoneBelow : ℕ → Type 0
  NoneBelow n = (m : ℕ) (later : List ℕ) → m < n → Fits (want ∷ wants) tokens (m ∷ later) → ⊥

  taken : (n : ℕ) → NoneBelow n → n ≤ length tokens → meets want (take n tokens) ≡ true → (lengths : List ℕ) → Chosen wants (drop n tokens) lengths → Decided (want ∷ wants) tokens
  taken n none within met lengths chosen = inl (n ∷ lengths, choice_more want wants tokens n lengths next chosen)
    where
      next : IsNext want wants tokens n
      next = record {
        within = within;
        met = met;
        first = λ m later h. elim (cases_lt m n) [ inl lt ↦ absurd (none m later lt h) | inr le ↦ le ];
        enough = λ m later h. (lengths, chosen.fits);
      }

  none_more : (n : ℕ) → NoneBelow n → ((later : List ℕ) → Fits (want ∷ wants) tokens (n ∷ later) → ⊥) → NoneBelow (n + 1)
  none_more n none here m later lt h = elim (cases_eq m n) [ inl e ↦ here later (subst (λ k. Fits (want ∷ wants) tokens (k ∷ later)) e h) | inr ne ↦ none m later (omega arith) h ]

  nothing : NoneBelow (length tokens + 1) → (lengths : List ℕ) → Fits (want ∷ wants) tokens lengths → ⊥
  nothing none [] h = h
  nothing none (m ∷ later) h = let le = h.0 in none m later (omega arith) h

  try_at : (n : ℕ) → NoneBelow n → n ≤ length tokens → (met : Bool) → meets want (take n tokens) ≡ met → Decided wants (drop n tokens) → (NoneBelow (n + 1) → Decided (want ∷ wants) tokens) → Decided (want ∷ wants) tokens
  try_at n none within true met (inl found) more = taken n none within met found.0 found.1
  try_at n none within true met (inr no_rest) more = more (none_more n none (λ later h. no_rest later h.2))
  try_at n none within false met found more = more (none_more n none (λ later h. both_ways (meets want (take n tokens)) met h.1))

  -- so many lengths are left to try
  try_from : (k n : ℕ) → n + k ≡ length tokens + 1 → NoneBelow n → Decided (want ∷ wants) tokens
  try_from zero n e none = let all : n ≡ length tokens + 1 = omega arith in inr (nothing (subst NoneBelow all none))
  try_from (suc k) n e none = try_at n none (omega arith) (meets want (take n tokens)) refl (rest n) (try_from k (n + 1) (omega arith))

  try_all : Decided (want ∷ wants) tokens
  try_all = let all : 0 + (length tokens + 1) ≡ length tokens + 1 = omega arith in try_from (length tokens + 1) 0 all (λ m later lt h. omega arith)

-- either some lengths are chosen, or none fit
pub decide : (wants : List Want) (tokens : List Token) → Decided wants tokens
decide [] [] = inl ([], record { fits = tt; least = λ others fits. tt })
decide [] (token ∷ tokens) = inr over
  where
    over : (lengths : List ℕ) → Fits [] (token ∷ tokens) lengths → ⊥
    over [] h = h
    over (n ∷ lengths) h = h
decide (want ∷ wants) tokens = try_all want wants tokens (λ n. decide wants (drop n tokens))
