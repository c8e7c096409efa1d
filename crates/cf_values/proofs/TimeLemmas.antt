-- What is read of a time.
use Rattle.std.proofs.Common.{◌≡◌, ℕ, ◌+◌, ◌^◌, ◌<◌, ◌≤◌, arith, List, [], ◌∷◌, ◌++◌, length, take, get_or, refl, sym, ap, subst, ◌∙◌, take_all}
use Rattle.std.proofs.lemmas.List.{take_more}
use Rattle.cf_values.specs.declared.unit.TimeUnit.{TimeUnit}
use Rattle.cf_values.specs.declared.under_way.UnderWay.{UnderWay}
use Rattle.cf_values.specs.Times.{IsTime, total}
use Rattle.cf_values.specs.Refusals.{Begins, IsFirstBad, IsRefused, empty, above}
use Rattle.cf_values.specs.inner.Stages.{Stands, capped}
use Rattle.cf_values.proofs.ParseLemmas.{one_time}
use Rattle.cf_values.proofs.RefusalLemmas.{IsGrammar}
use Rattle.cf_values.proofs.StandLemmas.{time_begins}

-- a text spells one time at most, and none if it is empty
pub times : (unit : TimeUnit) → IsGrammar (IsTime unit)
times unit = record { one = one_time unit; some = λ n a. a.some refl }

-- a front with the byte behind it
front_more : (text : List ℕ) (place b : ℕ) → place < length text → b ≡ get_or text place 0 → take (place + 1) text ≡ take place text ++ b ∷ []
front_more text place b within at = take_more text place 0 within ∙ ap (λ x. take place text ++ x ∷ []) (sym at)

-- the first byte with which no time goes on is the first bad byte
pub bad_time : (kept : UnderWay) (text : List ℕ) (place b : ℕ) (unit : TimeUnit) → Stands kept (take place text) → place < length text → b ≡ get_or text place 0
    → ((u : TimeUnit) → ¬ Begins (IsTime u) (take place text ++ b ∷ [])) → IsFirstBad (IsTime unit) text place
bad_time kept text place b unit stands within at stuck = record {
  within = within;
  before = time_begins kept (take place text) stands unit;
  with_it = subst (λ f. ¬ Begins (IsTime unit) f) (sym (front_more text place b within at)) (stuck unit);
}

-- a whole text that is a time is one
whole_time : (kept : UnderWay) (text : List ℕ) (place : ℕ) (unit : TimeUnit) → length text ≤ place → (stands : Stands kept (take place text)) → (text ≡ [] → ⊥) → IsTime unit text (total unit stands.time)
whole_time kept text place unit le stands some = record {
  time = stands.time;
  proper = stands.proper;
  some = some;
  spelled = sym (take_all place text le) ∙ stands.spelled;
  number = refl;
}

below_cap : (n : ℕ) → capped n ≤ 2 ^ 60 → capped n ≡ n
unfolding capped
below_cap n le = omega arith

above_cap : (n : ℕ) → 2 ^ 60 < capped n → 2 ^ 60 < n
unfolding capped
above_cap n lt = omega arith

-- the number of a time that isn't above the most
pub time_within : (kept : UnderWay) (text : List ℕ) (place sum : ℕ) (unit : TimeUnit) → length text ≤ place → (stands : Stands kept (take place text)) → (text ≡ [] → ⊥)
    → sum ≡ capped (total unit stands.time) → sum ≤ 2 ^ 60 → IsTime unit text sum
time_within kept text place sum unit le stands some is within =
    let exact : sum ≡ total unit stands.time = is ∙ below_cap (total unit stands.time) (subst (λ n. n ≤ 2 ^ 60) is within) in
    subst (IsTime unit text) (sym exact) (whole_time kept text place unit le stands some)

-- a time above the most is refused at its length
pub time_above : (kept : UnderWay) (text : List ℕ) (place sum : ℕ) (unit : TimeUnit) → length text ≤ place → (stands : Stands kept (take place text))
    → sum ≡ capped (total unit stands.time) → 2 ^ 60 < sum → IsRefused (IsTime unit) (2 ^ 60) text (length text)
time_above kept [] place sum unit le stands is past = empty refl refl
time_above kept (b ∷ bs) place sum unit le stands is past =
    above (total unit stands.time) (whole_time kept (b ∷ bs) place unit le stands (λ e. cc)) (above_cap (total unit stands.time) (subst (λ n. 2 ^ 60 < n) is past)) refl
