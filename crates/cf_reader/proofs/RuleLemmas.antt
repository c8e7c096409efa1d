-- Items, pieces and steps from the front of a side.
use Rattle.std.proofs.Common.{◌≡◌, ℕ, zero, suc, ◌+◌, ◌<◌, List, [], ◌∷◌, ◌++◌, length, take, drop, get_or, Bool, true, false, cond, not, ◌&&◌, ◌||◌, eqb, Option, Some, None, Ok, Err, slice_get, refl, sym, ◌∙◌, ap, subst, arith}
use Rattle.std.specs.List.{prefix_len}
use Rattle.std.proofs.lemmas.List.{append_assoc, drop_more}
use Rattle.std.proofs.lemmas.Bool.{cond_both, cond-true, cond-false, eqb-true, or_cases, or_parts, not-true, not-false}
use Rattle.std.proofs.Common.{⊎_elim}
use Rattle.mail_base.specs.declared.rule.Step.{Step}
use Rattle.addr_tokens.specs.declared.lexeme.Lexeme.{Lexeme}
use Rattle.addr_tokens.specs.declared.lexeme.Lexeme.TheVariants.{Token, Dollar, Named}
use Rattle.cf_reader.specs.declared.fault.LineStop.{LineStop}
use Rattle.cf_reader.specs.declared.fault.LineStop.TheVariants as stops
use Rattle.cf_reader.specs.Sides.{put, is_dollar, is_opening, is_closing, bracketed, step_of, Rest, Steps, Closes, Nothing, with_step, before, rest_of, whole}
use Rattle.cf_reader.specs.inner.Making.{Makes, added, is_bracket, steps_in, IsFirst}

module _ {Y : Type 0} where
  -- one more so far is one less in front of the rest
  pub added_one : (ys : List Y) (y : Y) (more : Option (List Y)) → added ys (put (Some y) more) ≡ added (ys ++ y ∷ []) more
  added_one ys y None = refl
  added_one ys y (Some more) = ap Some (sym (append_assoc ys (y ∷ []) more))

  put_none : (o : Option Y) → put o None ≡ None
  put_none None = refl
  put_none (Some y) = refl

-- ---- brackets

-- the byte of a bracket is one of two
module _ (byte one other : ℕ) (P : ℕ → Type 0) where
  by_byte : P one → P other → (eqb byte one || eqb byte other) ≡ true → P byte
  by_byte p q e = ⊎_elim (λ is. subst P (sym (eqb-true byte one is)) p) (λ is. subst P (sym (eqb-true byte other is)) q) (or_cases (eqb byte one) (eqb byte other) e)

opening_is_not_closing : (lexeme : Lexeme) → is_opening lexeme ≡ true → is_closing lexeme ≡ false
opening_is_not_closing (Token token) e = refl
opening_is_not_closing (Dollar byte) e = by_byte byte 91 40 (λ b. is_closing (Dollar b) ≡ false) refl refl e
opening_is_not_closing (Named byte name) e = refl

opening_is_no_step : (lexeme : Lexeme) → is_opening lexeme ≡ true → step_of lexeme ≡ None
opening_is_no_step (Token token) e = cc
opening_is_no_step (Dollar byte) e = by_byte byte 91 40 (λ b. step_of (Dollar b) ≡ None) refl refl e
opening_is_no_step (Named byte name) e = cc

and_false : (x y : Bool) → y ≡ false → (x && y) ≡ false
and_false true y e = e
and_false false y e = refl

opening_closes_nothing : (opening : Lexeme) (inside : List Lexeme) (b : Lexeme) → is_opening b ≡ true → bracketed opening inside b ≡ None
opening_closes_nothing opening inside b e =
    let out = or_parts (is_dollar 93 b) (is_dollar 41 b) (opening_is_not_closing b e) in
    cond-false (is_dollar 91 opening && is_dollar 93 b) _ _ (and_false _ _ out.0) ∙ cond-false (is_dollar 40 opening && is_dollar 41 b) _ _ (and_false _ _ out.1)

whole_with : (o : Option Step) (steps : List Step) → whole (with_step o steps) ≡ put o (Some steps)
whole_with None steps = refl
whole_with (Some step) steps = refl

-- ---- what stands between brackets

-- lexemes of which none is a bracket
abbrev ArePlain : List Lexeme → Type 0
ArePlain [] = Unit {0}
ArePlain (lexeme ∷ lexemes) = (is_bracket lexeme ≡ false) × ArePlain lexemes

-- no lookup that began before it ends in it
abbrev NotCloses : Rest → Type 0
NotCloses (Steps steps) = Unit {0}
NotCloses (Closes inside closing steps) = ⊥
NotCloses Nothing = Unit {0}

not_closes_with : (o : Option Step) (steps : List Step) → NotCloses (with_step o steps)
not_closes_with None steps = tt
not_closes_with (Some step) steps = tt

plain_before : (lexeme : Lexeme) (rest : Rest) → is_bracket lexeme ≡ false → NotCloses rest → NotCloses (before lexeme rest)
plain_before lexeme (Steps steps) e k =
    let out = or_parts (is_opening lexeme) (is_closing lexeme) e in
    subst NotCloses (sym (cond-false (is_closing lexeme) (Closes [] lexeme steps) (with_step (step_of lexeme) steps) out.1)) (not_closes_with (step_of lexeme) steps)
plain_before lexeme (Closes inside closing steps) e k = absurd k
plain_before lexeme Nothing e k = tt

opening_before : (lexeme : Lexeme) (rest : Rest) → is_opening lexeme ≡ true → NotCloses (before lexeme rest)
opening_before lexeme (Steps steps) e =
    subst NotCloses (sym (cond-false (is_closing lexeme) (Closes [] lexeme steps) (with_step (step_of lexeme) steps) (opening_is_not_closing lexeme e))) (not_closes_with (step_of lexeme) steps)
opening_before lexeme (Closes inside closing steps) e =
    subst NotCloses (sym (cond-false (is_closing lexeme) Nothing (cond (is_opening lexeme) (with_step (bracketed lexeme inside closing) steps) (Closes (lexeme ∷ inside) closing steps)) (opening_is_not_closing lexeme e)
    ∙ cond-true (is_opening lexeme) (with_step (bracketed lexeme inside closing) steps) (Closes (lexeme ∷ inside) closing steps) e))
    (not_closes_with (bracketed lexeme inside closing) steps)
opening_before lexeme Nothing e = tt

plain_on : (inside lexemes : List Lexeme) → ArePlain inside → NotCloses (rest_of lexemes) → NotCloses (rest_of (inside ++ lexemes))
plain_on [] lexemes plain k = k
plain_on (lexeme ∷ inside) lexemes plain k = plain_before lexeme (rest_of (inside ++ lexemes)) plain.0 (plain_on inside lexemes plain.1 k)

plain_all : (inside : List Lexeme) → ArePlain inside → NotCloses (rest_of inside)
plain_all [] plain = tt
plain_all (lexeme ∷ inside) plain = plain_before lexeme (rest_of inside) plain.0 (plain_all inside plain.1)

-- an opening bracket that nothing closes
open_none : (opening : Lexeme) (rest : Rest) → is_opening opening ≡ true → NotCloses rest → whole (before opening rest) ≡ None
open_none opening (Steps steps) e k =
    ap whole (cond-false (is_closing opening) (Closes [] opening steps) (with_step (step_of opening) steps) (opening_is_not_closing opening e)) ∙ ap (λ (o : Option Step). whole (with_step o steps)) (opening_is_no_step opening e)
open_none opening (Closes inside closing steps) e k = absurd k
open_none opening Nothing e k = refl

-- a closing bracket, and what stands before it
abbrev closes : List Lexeme → Lexeme → Rest → Rest
closes inside closing (Steps steps) = Closes inside closing steps
closes inside closing (Closes more other steps) = Nothing
closes inside closing Nothing = Nothing

closing_before : (closing : Lexeme) (rest : Rest) → is_closing closing ≡ true → before closing rest ≡ closes [] closing rest
closing_before closing (Steps steps) e = cond-true (is_closing closing) (Closes [] closing steps) (with_step (step_of closing) steps) e
closing_before closing (Closes inside other steps) e = cond-true (is_closing closing) Nothing (cond (is_opening closing) (with_step (bracketed closing inside other) steps) (Closes (closing ∷ inside) other steps)) e
closing_before closing Nothing e = refl

inside_before : (lexeme : Lexeme) (inside : List Lexeme) (closing : Lexeme) (rest : Rest) → is_bracket lexeme ≡ false → before lexeme (closes inside closing rest) ≡ closes (lexeme ∷ inside) closing rest
inside_before lexeme inside closing (Steps steps) e =
    let out = or_parts (is_opening lexeme) (is_closing lexeme) e in
    cond-false (is_closing lexeme) Nothing (cond (is_opening lexeme) (with_step (bracketed lexeme inside closing) steps) (Closes (lexeme ∷ inside) closing steps)) out.1
    ∙ cond-false (is_opening lexeme) (with_step (bracketed lexeme inside closing) steps) (Closes (lexeme ∷ inside) closing steps) out.0
inside_before lexeme inside closing (Closes more other steps) e = refl
inside_before lexeme inside closing Nothing e = refl

plain_closes : (inside : List Lexeme) (closing : Lexeme) (after : List Lexeme) → ArePlain inside → is_closing closing ≡ true → rest_of (inside ++ closing ∷ after) ≡ closes inside closing (rest_of after)
plain_closes [] closing after plain e = closing_before closing (rest_of after) e
plain_closes (lexeme ∷ inside) closing after plain e = ap (before lexeme) (plain_closes inside closing after plain.1 e) ∙ inside_before lexeme inside closing (rest_of after) plain.0

open_closes : (opening : Lexeme) (inside : List Lexeme) (closing : Lexeme) (rest : Rest) → is_opening opening ≡ true → whole (before opening (closes inside closing rest)) ≡ put (bracketed opening inside closing) (whole rest)
open_closes opening inside closing (Steps steps) e =
    ap whole (cond-false (is_closing opening) Nothing (cond (is_opening opening) (with_step (bracketed opening inside closing) steps) (Closes (opening ∷ inside) closing steps)) (opening_is_not_closing opening e)
    ∙ cond-true (is_opening opening) (with_step (bracketed opening inside closing) steps) (Closes (opening ∷ inside) closing steps) e)
    ∙ whole_with (bracketed opening inside closing) steps
open_closes opening inside closing (Closes more other steps) e = sym (put_none (bracketed opening inside closing))
open_closes opening inside closing Nothing e = sym (put_none (bracketed opening inside closing))

-- from an opening bracket to the next bracket
bracket : (opening : Lexeme) (inside : List Lexeme) (b : Lexeme) (after : List Lexeme) → is_opening opening ≡ true → ArePlain inside → is_bracket b ≡ true
    → steps_in (opening ∷ (inside ++ b ∷ after)) ≡ put (bracketed opening inside b) (steps_in after)
bracket opening inside b after e plain is =
    ⊎_elim
    (λ opens. open_none opening (rest_of (inside ++ b ∷ after)) e (plain_on inside (b ∷ after) plain (opening_before b (rest_of after) opens))
    ∙ ap (λ (o : Option Step). put o (steps_in after)) (sym (opening_closes_nothing opening inside b opens)))
    (λ ends. ap (λ (r : Rest). whole (before opening r)) (plain_closes inside b after plain ends) ∙ open_closes opening inside b (rest_of after) e)
    (or_cases (is_opening b) (is_closing b) is)

-- ---- the first bracket

abbrev is_plain : Lexeme → Bool
is_plain lexeme = not (is_bracket lexeme)

one_more : (n : ℕ) → 1 + n ≡ suc n
one_more n = omega arith

plain_front : (xs : List Lexeme) → ArePlain (take (prefix_len is_plain xs) xs)
plain_front [] = tt
plain_front (x ∷ xs) =
    cond_both (is_plain x) (1 + prefix_len is_plain xs) 0 (λ n. ArePlain (take n (x ∷ xs)))
    (λ p. subst (λ (n : ℕ). ArePlain (take n (x ∷ xs))) (sym (one_more (prefix_len is_plain xs))) (not-true (is_bracket x) p, plain_front xs))
    (λ p. tt)

at_front : (xs : List Lexeme) (b : Lexeme) → slice_get xs (prefix_len is_plain xs) ≡ Some b → is_bracket b ≡ true
at_front [] b g = cc
at_front (x ∷ xs) b g =
    cond_both (is_plain x) (1 + prefix_len is_plain xs) 0 (λ n. slice_get (x ∷ xs) n ≡ Some b → is_bracket b ≡ true)
    (λ p. λ k. at_front xs b (subst (λ (n : ℕ). slice_get (x ∷ xs) n ≡ Some b) (one_more (prefix_len is_plain xs)) k))
    (λ p. λ k. let same : x ≡ b = cc in subst (λ (y : Lexeme). is_bracket y ≡ true) same (not-false (is_bracket x) p)) g

no_front : (xs : List Lexeme) → slice_get xs (prefix_len is_plain xs) ≡ None → ArePlain xs
no_front [] g = tt
no_front (x ∷ xs) g =
    cond_both (is_plain x) (1 + prefix_len is_plain xs) 0 (λ n. slice_get (x ∷ xs) n ≡ None → ArePlain (x ∷ xs))
    (λ p. λ k. (not-true (is_bracket x) p, no_front xs (subst (λ (n : ℕ). slice_get (x ∷ xs) n ≡ None) (one_more (prefix_len is_plain xs)) k)))
    (λ p. λ k. absurd (cc)) g

module _ {X : Type 0} where
  cut_at : (xs : List X) (n : ℕ) (x : X) → slice_get xs n ≡ Some x → xs ≡ take n xs ++ x ∷ drop (suc n) xs
  cut_at [] n x g = cc
  cut_at (y ∷ xs) zero x g = let same : y ≡ x = cc in ap (λ (z : X). z ∷ xs) same
  cut_at (y ∷ xs) (suc n) x g = ap (λ (zs : List X). y ∷ zs) (cut_at xs n x g)

  within : (xs : List X) (n : ℕ) (x : X) → slice_get xs n ≡ Some x → n < length xs
  within [] n x g = absurd (cc)
  within (y ∷ xs) zero x g = omega arith
  within (y ∷ xs) (suc n) x g = omega (arith, within xs n x g)

-- ---- the first step

module _ (first : Lexeme) (after : List Lexeme) (n : ℕ) (b : Lexeme) (opens : is_opening first ≡ true) (size : n ≡ prefix_len is_plain after) (at : slice_get after n ≡ Some b) where
  up_to : steps_in (first ∷ after) ≡ put (bracketed first (take n after) b) (steps_in (drop (suc n) after))
  up_to =
      ap (λ (zs : List Lexeme). steps_in (first ∷ zs)) (cut_at after n b at)
      ∙ bracket first (take n after) b (drop (suc n) after) opens (subst (λ (k : ℕ). ArePlain (take k after)) (sym size) (plain_front after))
      (at_front after b (subst (λ (k : ℕ). slice_get after k ≡ Some b) size at))

  -- an opening sign, plain lexemes and what closes them are the first step where they make one
  pub first_bracket : (step : Step) → bracketed first (take n after) b ≡ Some step → IsFirst (Ok (step, n + 2)) (first ∷ after)
  first_bracket step is =
      let low : n < length after = within after n b at in
      let e : n + 2 ≡ suc (suc n) = omega arith in
      (omega arith, omega arith, up_to ∙ ap (λ (o : Option Step). put o (steps_in (drop (suc n) after))) is ∙ ap (λ (k : ℕ). put (Some step) (steps_in (drop k (first ∷ after)))) (sym e))

  -- where brackets make no step, the right side makes none
  pub none_bracket : bracketed first (take n after) b ≡ None → steps_in (first ∷ after) ≡ None
  none_bracket is = up_to ∙ ap (λ (o : Option Step). put o (steps_in (drop (suc n) after))) is

-- an opening sign that nothing closes makes no right side
pub none_unclosed : (first : Lexeme) (after : List Lexeme) (n : ℕ) → is_opening first ≡ true → n ≡ prefix_len is_plain after → slice_get after n ≡ None → steps_in (first ∷ after) ≡ None
none_unclosed first after n opens size past = open_none first (rest_of after) opens (plain_all after (no_front after (subst (λ (k : ℕ). slice_get after k ≡ None) size past)))

-- ---- the loop over steps

module _ (body : List Lexeme) (place : ℕ) (first : Lexeme) (low : place < length body) (is : first ≡ get_or body place first) where
  split : drop place body ≡ first ∷ drop (place + 1) body
  split = drop_more body place first low ∙ ap (λ (x : Lexeme). x ∷ drop (place + 1) body) (sym is)

-- ---- what is handed on

module _ {V W : Type 0} where
  -- what stops a part stops the whole, where the whole isn't made without that part
  pub fails_on : (stop : LineStop) (one : Option W) (other : Option V) → (one ≡ None → other ≡ None) → Makes {V = W} (Err stop) one → Makes {V = V} (Err stop) other
  fails_on (stops.Refused fault) one other so fails = (fails.0, so fails.1)
  fails_on stops.FilesFault one other so fails = fails
  fails_on stops.NoMemory one other so fails = tt

-- where the first step of a right side is refused, so is the right side
pub first_fails : (stop : LineStop) (one : Option Step) (lexemes : List Lexeme) → (one ≡ None → steps_in lexemes ≡ None) → Makes {V = Step} (Err stop) one → IsFirst (Err stop) lexemes
first_fails (stops.Refused fault) one lexemes so fails = (fails.0, so fails.1)
first_fails stops.FilesFault one lexemes so fails = fails
first_fails stops.NoMemory one lexemes so fails = tt
