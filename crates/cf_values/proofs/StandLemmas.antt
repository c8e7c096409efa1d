-- What is kept of a time while its text is read.
use Rattle.std.proofs.Common.{◌≡◌, ℕ, ◌+◌, ◌-◌, ◌*◌, List, [], ◌∷◌, ◌++◌, Option, Some, None, refl, sym, ap, ◌∙◌, arith, append_assoc, zero-add}
use Rattle.std.specs.Prelude.{unwrap_or, sum_by}
use Rattle.std.specs.List.{flat_map}
use Rattle.std.proofs.lemmas.List.{append-nil}
use Rattle.std.proofs.lemmas.List.Concat.{flat_map-append}
use Rattle.std.proofs.lemmas.List.Sums.{sum_by-append}
use Rattle.std.proofs.lemmas.List.Elements.{All-push, All-nil}
use Rattle.cf_values.specs.declared.unit.TimeUnit.{TimeUnit}
use Rattle.cf_values.specs.declared.unit.TimeUnit.TheVariants.{Week, Day, Hour, Minute, Second}
use Rattle.cf_values.specs.declared.under_way.UnderWay.{UnderWay}
use Rattle.cf_values.specs.Numbers.{IsDigit, IsNumeral, value}
use Rattle.cf_values.specs.Times.{Pair, Time, IsProper, IsTime, letter, seconds, pair_spelling, pair_seconds, spelling, total}
use Rattle.cf_values.specs.Refusals.{Begins}
use Rattle.cf_values.specs.inner.Stages.{capped, count_of, Stands}
use Rattle.cf_values.proofs.DigitLemmas.{value-push, zero_digit, push_some}
use Rattle.cf_values.proofs.ParseLemmas.{no_time_begins, next-other, next-bare}

capped-digit : (n d : ℕ) → capped (capped n * 10 + d) ≡ capped (n * 10 + d)
unfolding capped
capped-digit n d = omega arith

-- so many units more
pub capped-plus : (m n : ℕ) (u : TimeUnit) → capped (capped m + capped n * seconds u) ≡ capped (m + n * seconds u)
unfolding capped
capped-plus m n Week = omega arith
capped-plus m n Day = omega arith
capped-plus m n Hour = omega arith
capped-plus m n Minute = omega arith
capped-plus m n Second = omega arith

-- a number that isn't there counts as none
pub count_or_none : (last : List ℕ) → unwrap_or (count_of last) 0 ≡ capped (value last)
unfolding capped
count_or_none [] = refl
count_or_none (d ∷ ds) = refl

count_of-push : (last : List ℕ) (b : ℕ) → count_of (last ++ b ∷ []) ≡ Some (capped (value (last ++ b ∷ [])))
count_of-push [] b = refl
count_of-push (d ∷ ds) b = refl

some_of_count : (last : List ℕ) (count : ℕ) → count_of last ≡ Some count → (last ≡ [] → ⊥) × (count ≡ capped (value last))
some_of_count [] count e = absurd cc
some_of_count (d ∷ ds) count e = (λ h. cc, ap (λ o. unwrap_or o 0) (sym e))

none_of_count : (last : List ℕ) → count_of last ≡ None → last ≡ []
none_of_count [] e = refl
none_of_count (d ∷ ds) e = absurd cc

-- a time with a digit more
with_digit : Time → ℕ → Time
with_digit t b = record { pairs = t.pairs; last = t.last ++ b ∷ [] }

proper_digit : (t : Time) (b : ℕ) → IsProper t → IsDigit b → IsProper (with_digit t b)
unfolding with_digit
proper_digit t b is d = record { pairs = is.pairs; last = All-push IsDigit t.last b is.last d }

spelled_digit : (t : Time) (front : List ℕ) (b : ℕ) → front ≡ spelling t → front ++ b ∷ [] ≡ spelling (with_digit t b)
unfolding with_digit
spelled_digit t front b e = ap (λ f. f ++ b ∷ []) e ∙ append_assoc (flat_map pair_spelling t.pairs) t.last (b ∷ [])

-- nothing is kept of no text
pub stands_none : (count : Option ℕ) → count ≡ None → Stands (record { seconds = 0; count = count }) []
unfolding capped
stands_none count e = record {
  time = record { pairs = []; last = [] };
  proper = record { pairs = All-nil _; last = All-nil _ };
  spelled = refl;
  seconds = refl;
  count = e;
}

-- a digit more
pub stands_digit : (kept : UnderWay) (front : List ℕ) (b d count : ℕ) → Stands kept front → IsDigit b → b ≡ 48 + d → count ≡ capped (unwrap_or kept.count 0 * 10 + d)
    → Stands (record { seconds = kept.seconds; count = Some count }) (front ++ b ∷ [])
unfolding with_digit
stands_digit kept front b d count stands digit is counted =
    let t = stands.time in
    let before : unwrap_or kept.count 0 ≡ capped (value t.last) = ap (λ o. unwrap_or o 0) stands.count ∙ count_or_none t.last in
    let one : d ≡ b - 48 = omega arith in
    let number : count ≡ capped (value (t.last ++ b ∷ [])) =
    counted ∙ ap (λ n. capped (n * 10 + d)) before ∙ capped-digit (value t.last) d ∙ ap (λ x. capped (value t.last * 10 + x)) one ∙ ap capped (sym (value-push t.last b)) in
    record {
      time = with_digit t b;
      proper = proper_digit t b stands.proper digit;
      spelled = spelled_digit t front b stands.spelled;
      seconds = stands.seconds;
      count = ap Some number ∙ sym (count_of-push t.last b);
    }

-- a letter more
pub stands_letter : (kept : UnderWay) (front : List ℕ) (b count sum : ℕ) (u : TimeUnit) → Stands kept front → b ≡ letter u → kept.count ≡ Some count → sum ≡ capped (kept.seconds + count * seconds u)
    → Stands (record { seconds = sum; count = None }) (front ++ b ∷ [])
stands_letter kept front b count sum u stands is counted summed =
    let t = stands.time in
    let some = some_of_count t.last count (sym stands.count ∙ counted) in
    let pair : Pair = record { digits = t.last; unit = u } in
    let HasNumeral : Pair → Type 0 = λ p. IsNumeral p.digits in
    let joined : flat_map pair_spelling t.pairs ++ t.last ++ b ∷ [] ≡ flat_map pair_spelling (t.pairs ++ pair ∷ []) ++ [] =
    append_assoc (flat_map pair_spelling t.pairs) t.last (b ∷ [])
    ∙ ap (λ x. flat_map pair_spelling t.pairs ++ (t.last ++ x ∷ [])) is
    ∙ ap (λ xs. flat_map pair_spelling t.pairs ++ xs) (sym (append-nil (pair_spelling pair)))
    ∙ sym (flat_map-append pair_spelling t.pairs (pair ∷ []))
    ∙ sym (append-nil (flat_map pair_spelling (t.pairs ++ pair ∷ []))) in
    record {
      time = record { pairs = t.pairs ++ pair ∷ []; last = [] };
      proper = record {
        pairs = All-push HasNumeral t.pairs pair stands.proper.pairs (record { some = some.0; digits = stands.proper.last });
        last = All-nil IsDigit;
      };
      spelled = ap (λ f. f ++ b ∷ []) stands.spelled ∙ joined;
      seconds =
          summed ∙ ap (λ x. capped (x + count * seconds u)) stands.seconds ∙ ap (λ x. capped (capped (sum_by pair_seconds t.pairs) + x * seconds u)) some.1
          ∙ capped-plus (sum_by pair_seconds t.pairs) (value t.last) u
          ∙ ap (λ x. capped (sum_by pair_seconds t.pairs + x)) (sym (zero-add (value t.last * seconds u)))
          ∙ ap capped (sym (sum_by-append pair_seconds t.pairs (pair ∷ [])));
      count = refl;
    }

-- no time goes on with another byte
pub stuck_other : (kept : UnderWay) (front : List ℕ) (b : ℕ) → Stands kept front → ¬ IsDigit b → ((u : TimeUnit) → b ≡ letter u → ⊥) → (unit : TimeUnit) → ¬ Begins (IsTime unit) (front ++ b ∷ [])
stuck_other kept front b stands no_digit no_letter unit = no_time_begins stands.time front b unit stands.proper stands.spelled (next-other stands.time b no_digit no_letter)

-- nor with a letter that has no digits before it
pub stuck_bare : (kept : UnderWay) (front : List ℕ) (b : ℕ) → Stands kept front → ¬ IsDigit b → kept.count ≡ None → (unit : TimeUnit) → ¬ Begins (IsTime unit) (front ++ b ∷ [])
stuck_bare kept front b stands no_digit none unit =
    no_time_begins stands.time front b unit stands.proper stands.spelled (next-bare stands.time b no_digit (none_of_count stands.time.last (sym stands.count ∙ none)))

-- some time begins with each front
pub time_begins : (kept : UnderWay) (front : List ℕ) → Stands kept front → (unit : TimeUnit) → Begins (IsTime unit) front
time_begins kept front stands unit =
    let t = with_digit stands.time 48 in (
      48 ∷ [],
      total unit t,
      record {
        time = t;
        proper = proper_digit stands.time 48 stands.proper zero_digit;
        some = push_some front 48;
        spelled = spelled_digit stands.time front 48 stands.spelled;
        number = refl;
      },
    )
