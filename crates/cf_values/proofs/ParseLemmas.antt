-- A text is at most one time: that which its bytes give in turn.
use Rattle.std.proofs.Common.{◌≡◌, ℕ, Bool, true, false, cond, List, [], ◌∷◌, ◌++◌, Option, Some, None, refl, sym, ap, ◌∙◌, arith, append_assoc}
use Rattle.std.specs.Prelude.{All, unwrap_or}
use Rattle.std.specs.Option.{option_and_then}
use Rattle.std.specs.List.{flat_map}
use Rattle.std.proofs.lemmas.Bool.{cond-true, cond-false, ne_eqb}
use Rattle.std.proofs.lemmas.Bool.Decides.{nat_tests}
use Rattle.std.proofs.lemmas.List.{append-nil}
use Rattle.std.proofs.lemmas.List.Elements.{All-head, All-tail}
use Rattle.cf_values.specs.declared.unit.TimeUnit.{TimeUnit}
use Rattle.cf_values.specs.declared.unit.TimeUnit.TheVariants.{Week, Day, Hour, Minute, Second}
use Rattle.cf_values.specs.Numbers.{IsDigit, is_digit, IsNumeral}
use Rattle.cf_values.specs.Times.{Pair, Time, IsProper, IsTime, letter, unit_of, pair_spelling, spelling, total}
use Rattle.cf_values.specs.Refusals.{Begins}

-- a digit passes the test for digits
pub is_digit-true : (b : ℕ) → IsDigit b → is_digit b ≡ true
is_digit-true b d = grind (arith, nat_tests)

-- a byte that passes the test for digits is one
pub is_digit-from : (b : ℕ) → is_digit b ≡ true → IsDigit b
is_digit-from b e = (grind (arith, nat_tests), grind (arith, nat_tests))

is_digit-false : (b : ℕ) → ¬ IsDigit b → is_digit b ≡ false
is_digit-false b n = by (is_digit b) refl where
  by : (t : Bool) → is_digit b ≡ t → is_digit b ≡ false
  by true e = absurd (n (grind (arith, nat_tests), grind (arith, nat_tests)))
  by false e = e

-- a unit's letter names that unit
pub unit_of-letter : (u : TimeUnit) → unit_of (letter u) ≡ Some u
unit_of-letter Week = refl
unit_of-letter Day = refl
unit_of-letter Hour = refl
unit_of-letter Minute = refl
unit_of-letter Second = refl

-- no unit's letter is a digit
pub letter_is_no_digit : (u : TimeUnit) → is_digit (letter u) ≡ false
letter_is_no_digit Week = refl
letter_is_no_digit Day = refl
letter_is_no_digit Hour = refl
letter_is_no_digit Minute = refl
letter_is_no_digit Second = refl

unit_of-none : (b : ℕ) → ((u : TimeUnit) → b ≡ letter u → ⊥) → unit_of b ≡ None
unit_of-none b n =
    cond-false _ _ _ (ne_eqb b 119 (n Week)) ∙ cond-false _ _ _ (ne_eqb b 100 (n Day)) ∙ cond-false _ _ _ (ne_eqb b 104 (n Hour))
    ∙ cond-false _ _ _ (ne_eqb b 109 (n Minute)) ∙ cond-false _ _ _ (ne_eqb b 115 (n Second))

-- a number with its letter joins the pairs, where it has digits
abbrev closes : List Pair → List ℕ → TimeUnit → Option Time
closes pairs [] u = None
closes pairs (d ∷ ds) u = Some (record { pairs = pairs ++ record { digits = d ∷ ds; unit = u } ∷ []; last = [] })

abbrev with_unit : List Pair → List ℕ → Option TimeUnit → Option Time
with_unit pairs last None = None
with_unit pairs last (Some u) = closes pairs last u

-- a time with one byte more
abbrev next : Time → ℕ → Option Time
next t b = cond (is_digit b) (Some (record { pairs = t.pairs; last = t.last ++ b ∷ [] })) (with_unit t.pairs t.last (unit_of b))

-- a time with these bytes more
abbrev after : Time → List ℕ → Option Time
after t [] = Some t
after t (b ∷ bs) = option_and_then (λ u. after u bs) (next t b)

abbrev start : Time
start = record { pairs = []; last = [] }

after-append : (t : Time) (xs ys : List ℕ) → after t (xs ++ ys) ≡ option_and_then (λ u. after u ys) (after t xs)
after-append t [] ys = refl
after-append t (b ∷ xs) ys =
    elim (next t b) as (λ o. option_and_then (λ u. after u (xs ++ ys)) o ≡ option_and_then (λ u. after u ys) (option_and_then (λ u. after u xs) o)) [ None ↦ refl | Some u ↦ after-append u xs ys ]

abbrev timed : List Pair → List ℕ → Time
timed pairs last = record { pairs = pairs; last = last }

after-digits : (pairs : List Pair) (last ds rest : List ℕ) → All IsDigit ds → after (timed pairs last) (ds ++ rest) ≡ after (timed pairs (last ++ ds)) rest
after-digits pairs last [] rest all = ap (λ l. after (timed pairs l) rest) (sym (append-nil last))
after-digits pairs last (d ∷ ds) rest all =
    ap (option_and_then (λ u. after u (ds ++ rest))) (cond-true _ _ _ (is_digit-true d (All-head IsDigit d ds all)))
    ∙ after-digits pairs (last ++ d ∷ []) ds rest (All-tail IsDigit d ds all)
    ∙ ap (λ l. after (timed pairs l) rest) (append_assoc last (d ∷ []) ds)

next-letter : (pairs : List Pair) (ds : List ℕ) (u : TimeUnit) → (ds ≡ [] → ⊥) → next (timed pairs ds) (letter u) ≡ Some (timed (pairs ++ record { digits = ds; unit = u } ∷ []) [])
next-letter pairs [] u some = absurd (some refl)
next-letter pairs (d ∷ ds) u some = cond-false _ _ _ (letter_is_no_digit u) ∙ ap (with_unit pairs (d ∷ ds)) (unit_of-letter u)

abbrev HasNumeral : Pair → Type 0
HasNumeral pair = IsNumeral pair.digits

after-pairs : (done qs : List Pair) (rest : List ℕ) → All HasNumeral qs → after (timed done []) (flat_map pair_spelling qs ++ rest) ≡ after (timed (done ++ qs) []) rest
after-pairs done [] rest all = ap (λ ps. after (timed ps []) rest) (sym (append-nil done))
after-pairs done (q ∷ qs) rest all =
    let is = All-head HasNumeral q qs all in
    let more = flat_map pair_spelling qs in
    let cut : pair_spelling q ++ more ++ rest ≡ q.digits ++ (letter q.unit ∷ (more ++ rest)) = append_assoc (pair_spelling q) more rest ∙ append_assoc q.digits (letter q.unit ∷ []) (more ++ rest) in
    ap (after (timed done [])) cut
    ∙ after-digits done [] q.digits (letter q.unit ∷ (more ++ rest)) is.digits
    ∙ ap (option_and_then (λ u. after u (more ++ rest))) (next-letter done q.digits q.unit is.some)
    ∙ after-pairs (done ++ q ∷ []) qs rest (All-tail HasNumeral q qs all)
    ∙ ap (λ ps. after (timed ps []) rest) (append_assoc done (q ∷ []) qs)

-- a time is what its bytes give in turn
after-spelling : (t : Time) → IsProper t → after start (spelling t) ≡ Some t
after-spelling t is =
    after-pairs [] t.pairs t.last is.pairs
    ∙ ap (after (timed t.pairs [])) (sym (append-nil t.last))
    ∙ after-digits t.pairs [] t.last [] is.last

some_same : (s t : Time) → Some s ≡ Some t → s ≡ t
some_same s t e = ap (λ o. unwrap_or o s) e

-- the seconds of a text are the same however it is read
pub one_time : (unit : TimeUnit) (text : List ℕ) (n m : ℕ) → IsTime unit text n → IsTime unit text m → n ≡ m
one_time unit text n m a b =
    let same : a.time ≡ b.time = some_same a.time b.time (sym (after-spelling a.time a.proper) ∙ ap (after start) (sym a.spelled ∙ b.spelled) ∙ after-spelling b.time b.proper) in
    a.number ∙ ap (total unit) same ∙ sym b.number

-- where a byte leads nowhere, no time begins so
pub no_time_begins : (t : Time) (front : List ℕ) (b : ℕ) (unit : TimeUnit) → IsProper t → front ≡ spelling t → next t b ≡ None → ¬ Begins (IsTime unit) (front ++ b ∷ [])
no_time_begins t front b unit is spelled stuck h =
    let rest = h.0 in
    let whole = h.2 in
    let here : after start front ≡ Some t = ap (after start) spelled ∙ after-spelling t is in
    let none : after start (front ++ b ∷ [] ++ rest) ≡ None =
    ap (after start) (append_assoc front (b ∷ []) rest) ∙ after-append start front (b ∷ rest)
    ∙ ap (option_and_then (λ u. after u (b ∷ rest))) here ∙ ap (option_and_then (λ u. after u rest)) stuck in
    let some : after start (front ++ b ∷ [] ++ rest) ≡ Some whole.time = ap (after start) whole.spelled ∙ after-spelling whole.time whole.proper in
    let e : Some whole.time ≡ None = sym some ∙ none in
    cc

-- a byte that is neither a digit nor a letter leads nowhere
pub next-other : (t : Time) (b : ℕ) → ¬ IsDigit b → ((u : TimeUnit) → b ≡ letter u → ⊥) → next t b ≡ None
next-other t b no_digit no_letter = cond-false _ _ _ (is_digit-false b no_digit) ∙ ap (with_unit t.pairs t.last) (unit_of-none b no_letter)

-- nor does a letter without digits before it
pub next-bare : (t : Time) (b : ℕ) → ¬ IsDigit b → t.last ≡ [] → next t b ≡ None
next-bare t b no_digit bare = cond-false _ _ _ (is_digit-false b no_digit) ∙ ap (λ l. with_unit t.pairs l (unit_of b)) bare ∙ by (unit_of b) where
  by : (o : Option TimeUnit) → with_unit t.pairs [] o ≡ None
  by None = refl
  by (Some u) = refl
