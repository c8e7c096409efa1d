-- What is computed of a text is what it means.
use Rattle.std.proofs.Common.{◌≡◌, ◌↔◌, ℕ, ◌+◌, ◌*◌, Bool, true, false, cond, eqb, List, [], ◌∷◌, ◌++◌, Option, Some, None, refl, sym, ap, ◌∙◌, append_assoc, zero-add, add_assoc}
use Rattle.std.specs.Prelude.{All, unwrap_or, sum_by, ◌&&◌}
use Rattle.std.specs.List.{flat_map, list_all}
use Rattle.std.proofs.lemmas.List.Sums.{sum_by-cons}
use Rattle.std.proofs.lemmas.Bool.{cond-true, cond-false, eqb-true}
use Rattle.std.proofs.lemmas.List.{append-nil}
use Rattle.std.proofs.lemmas.List.Elements.{All-head, All-tail, All-cons, All-nil, All-push}
use Rattle.cf_values.specs.declared.unit.TimeUnit.{TimeUnit}
use Rattle.cf_values.specs.declared.unit.TimeUnit.TheVariants.{Week, Day, Hour, Minute, Second}
use Rattle.cf_values.specs.Numbers.{IsDigit, is_digit, IsNumeral, IsNumber, value, number_value}
use Rattle.cf_values.specs.Times.{Pair, Time, IsProper, IsTime, letter, unit_of, last_unit, seconds, pair_spelling, pair_seconds, spelling, total, with_seconds, closed, rest_value, time_value}
use Rattle.cf_values.proofs.ParseLemmas.{is_digit-true, is_digit-from, unit_of-letter, letter_is_no_digit}

both : (a b : Bool) → (a && b) ≡ true → (a ≡ true) × (b ≡ true)
both true b e = (refl, e)
both false b e = absurd (cc)

all-true : (digits : List ℕ) → All IsDigit digits → list_all is_digit digits ≡ true
all-true [] all = refl
all-true (d ∷ digits) all = ap (λ b. b && list_all is_digit digits) (is_digit-true d (All-head IsDigit d digits all)) ∙ all-true digits (All-tail IsDigit d digits all)

all-from : (digits : List ℕ) → list_all is_digit digits ≡ true → All IsDigit digits
all-from [] e = All-nil IsDigit
all-from (d ∷ digits) e =
    let h = both (is_digit d) (list_all is_digit digits) e in
    All-cons IsDigit d digits (is_digit-from d h.0) (all-from digits h.1)

number_from : (d : ℕ) (digits : List ℕ) (n : ℕ) (test : Bool) → list_all is_digit (d ∷ digits) ≡ test → cond test (Some (value (d ∷ digits))) None ≡ Some n → IsNumber (d ∷ digits) n
number_from d digits n true e h = record { numeral = record { some = λ x. cc; digits = all-from (d ∷ digits) e }; number = ap (λ o. unwrap_or o 0) (sym h) }
number_from d digits n false e h = absurd (cc)

-- the number that is computed of a text is the one that it spells
pub number_computed : (text : List ℕ) (n : ℕ) → (number_value text ≡ Some n) ↔ IsNumber text n
number_computed [] n = (λ e. absurd (cc), λ is. absurd (is.numeral.some refl))
number_computed (d ∷ digits) n = (
  λ e. number_from d digits n (list_all is_digit (d ∷ digits)) refl e,
  λ is. cond-true (list_all is_digit (d ∷ digits)) (Some (value (d ∷ digits))) None (all-true (d ∷ digits) is.numeral.digits) ∙ ap Some (sym is.number),
)

-- ---- a time that is written is computed

value-digits : (last : TimeUnit) (begun digits rest : List ℕ) → All IsDigit digits → rest_value last begun (digits ++ rest) ≡ rest_value last (begun ++ digits) rest
unfolding rest_value
value-digits last begun [] rest all = ap (λ l. rest_value last l rest) (sym (append-nil begun))
value-digits last begun (d ∷ digits) rest all =
    cond-true _ _ _ (is_digit-true d (All-head IsDigit d digits all))
    ∙ value-digits last (begun ++ d ∷ []) digits rest (All-tail IsDigit d digits all)
    ∙ ap (λ l. rest_value last l rest) (append_assoc begun (d ∷ []) digits)

value-letter : (last : TimeUnit) (digits : List ℕ) (u : TimeUnit) (rest : List ℕ) → (digits ≡ [] → ⊥) → rest_value last digits (letter u ∷ rest) ≡ with_seconds (value digits * seconds u) (rest_value last [] rest)
unfolding rest_value
value-letter last [] u rest some = absurd (some refl)
value-letter last (d ∷ digits) u rest some =
    cond-false _ _ _ (letter_is_no_digit u) ∙ ap (λ o. closed o (d ∷ digits) (rest_value last [] rest)) (unit_of-letter u)

abbrev HasNumeral : Pair → Type 0
HasNumeral pair = IsNumeral pair.digits

value-pairs : (last : TimeUnit) (qs : List Pair) (rest : List ℕ) → All HasNumeral qs → All IsDigit rest → rest_value last [] (flat_map pair_spelling qs ++ rest) ≡ Some (sum_by pair_seconds qs + value rest * seconds last)
unfolding rest_value
value-pairs last [] rest all digits =
    ap (rest_value last []) (sym (append-nil rest)) ∙ value-digits last [] rest [] digits ∙ ap Some (sym (zero-add (value rest * seconds last)))
value-pairs last (q ∷ qs) rest all digits =
    let is = All-head HasNumeral q qs all in
    let more = flat_map pair_spelling qs in
    let cut : pair_spelling q ++ more ++ rest ≡ q.digits ++ (letter q.unit ∷ (more ++ rest)) = append_assoc (pair_spelling q) more rest ∙ append_assoc q.digits (letter q.unit ∷ []) (more ++ rest) in
    ap (rest_value last []) cut
    ∙ value-digits last [] q.digits (letter q.unit ∷ (more ++ rest)) is.digits
    ∙ value-letter last q.digits q.unit (more ++ rest) is.some
    ∙ ap (with_seconds (pair_seconds q)) (value-pairs last qs rest (All-tail HasNumeral q qs all) digits)
    ∙ ap Some (sym (add_assoc (pair_seconds q) (sum_by pair_seconds qs) (value rest * seconds last)) ∙ ap (λ x. x + value rest * seconds last) (sym (sum_by-cons pair_seconds q qs)))

-- ---- a time that is computed is written

unit_of-some : (b : ℕ) (u : TimeUnit) → unit_of b ≡ Some u → b ≡ letter u
unit_of-some b u e = pick (eqb b 119) (eqb b 100) (eqb b 104) (eqb b 109) (eqb b 115) refl refl refl refl refl e
  where
    pick : (w d h m s : Bool) → eqb b 119 ≡ w → eqb b 100 ≡ d → eqb b 104 ≡ h → eqb b 109 ≡ m → eqb b 115 ≡ s →
        cond w (Some Week) (cond d (Some Day) (cond h (Some Hour) (cond m (Some Minute) (cond s (Some Second) None)))) ≡ Some u → b ≡ letter u
    pick true d h m s i j k l n e = eqb-true b 119 i ∙ ap letter (ap (λ o. unwrap_or o Week) e)
    pick false true h m s i j k l n e = eqb-true b 100 j ∙ ap letter (ap (λ o. unwrap_or o Week) e)
    pick false false true m s i j k l n e = eqb-true b 104 k ∙ ap letter (ap (λ o. unwrap_or o Week) e)
    pick false false false true s i j k l n e = eqb-true b 109 l ∙ ap letter (ap (λ o. unwrap_or o Week) e)
    pick false false false false true i j k l n e = eqb-true b 115 n ∙ ap letter (ap (λ o. unwrap_or o Week) e)
    pick false false false false false i j k l n e = absurd (cc)

-- the digits and the text behind them are a time of so many seconds
record Reads (last : TimeUnit) (digits text : List ℕ) (n : ℕ) : Type 0 where
  pub time : Time
  pub proper : IsProper time
  pub spelled : digits ++ text ≡ spelling time
  pub number : n ≡ total last time

reads-letter : (last : TimeUnit) (digits : List ℕ) (b : ℕ) (text : List ℕ) (n : ℕ) → All IsDigit digits → (unit : Option TimeUnit) → unit_of b ≡ unit → (rest : Option ℕ) → ((m : ℕ) → rest ≡ Some m → Reads last [] text m) →
    closed unit digits rest ≡ Some n → Reads last digits (b ∷ text) n
reads-letter last digits b text n all None is rest reads e = absurd (cc)
reads-letter last [] b text n all (Some u) is rest reads e = absurd (cc)
reads-letter last (d ∷ digits) b text n all (Some u) is None reads e = absurd (cc)
reads-letter last (d ∷ digits) b text n all (Some u) is (Some m) reads e =
    let r = reads m refl in
    let pair : Pair = record { digits = d ∷ digits; unit = u } in
    let more : List ℕ = flat_map pair_spelling r.time.pairs in
    record {
      time = record { pairs = pair ∷ r.time.pairs; last = r.time.last };
      proper = record { pairs = All-cons HasNumeral pair r.time.pairs (record { some = λ h. cc; digits = all }) r.proper.pairs; last = r.proper.last };
      spelled =
          ap (λ x. (d ∷ digits) ++ x ∷ text) (unit_of-some b u is) ∙ ap (λ t. (d ∷ digits) ++ letter u ∷ t) r.spelled
          ∙ sym (append_assoc (d ∷ digits) (letter u ∷ []) (more ++ r.time.last)) ∙ sym (append_assoc (pair_spelling pair) more r.time.last);
      number =
          ap (λ o. unwrap_or o 0) (sym e) ∙ ap (λ k. pair_seconds pair + k) r.number
          ∙ sym (add_assoc (pair_seconds pair) (sum_by pair_seconds r.time.pairs) (value r.time.last * seconds last))
          ∙ ap (λ x. x + value r.time.last * seconds last) (sym (sum_by-cons pair_seconds pair r.time.pairs));
    }

reads-byte : (last : TimeUnit) (digits : List ℕ) (b : ℕ) (text : List ℕ) (n : ℕ) → All IsDigit digits → (test : Bool) → is_digit b ≡ test → (on rest : Option ℕ) →
    (All IsDigit (digits ++ b ∷ []) → on ≡ Some n → Reads last (digits ++ b ∷ []) text n) → ((m : ℕ) → rest ≡ Some m → Reads last [] text m) →
    cond test on (closed (unit_of b) digits rest) ≡ Some n → Reads last digits (b ∷ text) n
reads-byte last digits b text n all true is on rest more reads e =
    let r = more (All-push IsDigit digits b all (is_digit-from b is)) e in
    record { time = r.time; proper = r.proper; spelled = sym (append_assoc digits (b ∷ []) text) ∙ r.spelled; number = r.number }
reads-byte last digits b text n all false is on rest more reads e = reads-letter last digits b text n all (unit_of b) refl rest reads e

reads : (last : TimeUnit) (digits text : List ℕ) (n : ℕ) → All IsDigit digits → rest_value last digits text ≡ Some n → Reads last digits text n
unfolding rest_value
reads last digits [] n all e = record {
  time = record { pairs = []; last = digits };
  proper = record { pairs = All-nil HasNumeral; last = all };
  spelled = append-nil digits;
  number = ap (λ o. unwrap_or o 0) (sym e) ∙ sym (zero-add (value digits * seconds last));
}
reads last digits (b ∷ text) n all e =
    reads-byte last digits b text n all (is_digit b) refl (rest_value last (digits ++ b ∷ []) text) (rest_value last [] text)
    (λ digits_more. reads last (digits ++ b ∷ []) text n digits_more) (λ m. reads last [] text m (All-nil IsDigit)) e

-- the time that is computed of a text is the one that it spells
pub time_computed : (unit : ℕ) (text : List ℕ) (n : ℕ) → (time_value unit text ≡ Some n) ↔ IsTime (last_unit unit) text n
time_computed unit [] n = (λ e. absurd (cc), λ is. absurd (is.some refl))
time_computed unit (b ∷ text) n = (
  λ e.
      let r = reads (last_unit unit) [] (b ∷ text) n (All-nil IsDigit) e in
      record { time = r.time; proper = r.proper; some = λ x. cc; spelled = r.spelled; number = r.number },
  λ is.
      ap (rest_value (last_unit unit) []) is.spelled
      ∙ value-pairs (last_unit unit) is.time.pairs is.time.last is.proper.pairs is.proper.last
      ∙ ap Some (sym is.number),
)
