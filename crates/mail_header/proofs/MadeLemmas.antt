-- A header that is made is a header.
use Rattle.std.proofs.Common.{◌≡◌, ℕ, zero, suc, ◌+◌, ◌<◌, ◌==◌, ◌||◌, Bool, true, false, not, List, [], ◌∷◌, ◌++◌, length, drop, slice_index, refl, sym, ap, subst, ◌∙◌, arith, ⊎_elim, inl, inr}
use Rattle.std.specs.List.{list_any}
use Rattle.std.proofs.lemmas.Bool.{cond-true, cond-false, cases_Bool, or_cases, eqb-true, eqb-false, false≢true}
use Rattle.std.proofs.lemmas.List.{append_assoc, at_drop_more}
use Rattle.mail_base.specs.Texts.{is_blank, IsBlank, IsHeader}
use Rattle.mail_base.specs.declared.lines.HeaderLine.{HeaderLine}
use Rattle.mail_header.specs.Headers.{is_plain}
use Rattle.mail_header.specs.Made.{folds, tidied, made_of}
use Rattle.mail_header.specs.inner.Tidy.{tidy_first}

-- what is tested as a blank is one
pub blank_is : (b : ℕ) → is_blank b ≡ true → IsBlank b
blank_is b h = ⊎_elim (λ space. inl (eqb-true b 32 space)) (λ tab. inr (eqb-true b 9 tab)) (or_cases (b == 32) (b == 9) h)

-- a blank stays
blank_stays : (b : ℕ) (rest : List ℕ) → is_blank b ≡ true → tidy_first (b ∷ rest) ≡ b
blank_stays b rest h = ⊎_elim (λ space. ap (λ x. tidy_first (x ∷ rest)) (eqb-true b 32 space) ∙ sym (eqb-true b 32 space)) (λ tab. ap (λ x. tidy_first (x ∷ rest)) (eqb-true b 9 tab) ∙ sym (eqb-true b 9 tab)) (or_cases (b == 32) (b == 9) h)

-- an LF that stays has a blank behind it
feed_folds : (b : ℕ) (rest : List ℕ) → tidy_first (b ∷ rest) ≡ 10 → is_blank (slice_index rest 0) ≡ true
feed_folds b rest e =
    ⊎_elim
    (λ keeps.
    let is : b ≡ 10 = sym (cond-true (is_plain b || folds b rest) b 32 keeps) ∙ e in
    let at : (is_plain 10 || folds 10 rest) ≡ true = ap (λ x. is_plain x || folds x rest) (sym is) ∙ keeps in
    ⊎_elim (λ yes. yes) (λ no. absurd (false≢true no)) (or_cases (is_blank (slice_index rest 0)) false at))
    (λ goes. let is : 32 ≡ 10 = sym (cond-false (is_plain b || folds b rest) b 32 goes) ∙ e in absurd (eqb-false 32 10 refl is))
    (cases_Bool (is_plain b || folds b rest))

next_blank : (rest : List ℕ) → is_blank (slice_index rest 0) ≡ true → IsBlank (slice_index (tidied rest) 0)
next_blank [] h = absurd (false≢true h)
next_blank (b ∷ rest) h = subst IsBlank (sym (blank_stays b rest h)) (blank_is b h)

tidied_header : (text : List ℕ) → IsHeader (tidied text)
tidied_header [] k e = absurd (eqb-false 0 10 refl e)
tidied_header (b ∷ rest) zero e = next_blank rest (feed_folds b rest e)
tidied_header (b ∷ rest) (suc k) e = let more : suc k + 1 ≡ suc (k + 1) = omega arith in subst (λ n. IsBlank (slice_index (tidied (b ∷ rest)) n)) (sym more) (tidied_header rest k e)

-- what is made of a header's line is a header
pub made_header : (macros : List (List ℕ × List ℕ)) (line : HeaderLine) → IsHeader (made_of macros line)
made_header macros line = tidied_header _

-- one byte more
pub tidied_more : (text made : List ℕ) (i : ℕ) → i < length text → (made ++ tidy_first (drop i text) ∷ []) ++ tidied (drop (i + 1) text) ≡ made ++ tidied (drop i text)
tidied_more text made i low =
    append_assoc made (tidy_first (drop i text) ∷ []) (tidied (drop (i + 1) text))
    ∙ ap (λ b. made ++ b ∷ tidied (drop (i + 1) text)) (at_drop_more tidy_first text i 0 low)
    ∙ sym (ap (λ t. made ++ t) (at_drop_more tidied text i 0 low))

-- an H line with flags is wanted where one of them is there
pub wanted_by : (flags : List ℕ) (one : Bool) → (flags ≡ [] → ⊥) → one ≡ (not (list_any (λ f. true) flags) || one)
wanted_by [] one some = absurd (some refl)
wanted_by (f ∷ flags) one some = refl
