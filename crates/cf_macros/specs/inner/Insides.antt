-- The rest of a text inside the conditionals that are open around it.
use Rattle.std.specs.Prelude.{ℕ, zero, suc, List, [], ◌++◌, Option, None, Some, Bool, true, false, ◌≡◌, ◌≤◌, length, drop}
use Rattle.cf_macros.specs.declared.construct.Kind.{Kind}
use Rattle.cf_macros.specs.declared.construct.Kind.TheVariants.{Plain, Reference, Test, Else, End, Unclosed}
use Rattle.cf_macros.specs.declared.scan.Mark.{Mark}
use Rattle.cf_macros.specs.declared.scan.Mark.TheVariants.{OtherPart, Behind, NoMark}
use Rattle.cf_macros.specs.declared.scope.Scope.{Scope}
use Rattle.cf_macros.specs.Readings.{Nothing, Reading, first_part, second_part, behind_end, reading}
use Rattle.cf_macros.specs.Expansion.{Act, acts_of, whole}

-- a text from a place on
abbrev pub rest_at : Scope → List ℕ → ℕ → Reading
rest_at scope text place = reading scope place 0 (drop place text)

-- what a test has of a rest that may be there
abbrev pub if_there : (Reading → Bool) → Option Reading → Bool
if_there test None = false
if_there test (Some rest) = test rest

-- whether so many conditionals that are open here are closed in the rest
abbrev pub is_closed : ℕ → Reading → Bool
is_closed zero rest = true
is_closed (suc depth) rest = if_there (is_closed depth) (behind_end rest)

-- the acts of a rest that may be there
abbrev pub beyond : (Reading → List Act) → Option Reading → List Act
beyond acts None = []
beyond acts (Some rest) = acts rest

-- the acts of the rest inside so many conditionals
abbrev pub inside : (List ℕ → List Act) → ℕ → Reading → List Act
inside followed zero rest = whole followed rest
inside followed (suc depth) rest =
    acts_of followed (first_part rest) ++ beyond (inside followed depth) (behind_end rest)

-- the same, where the other part of the innermost conditional is to be given
abbrev pub inside_other : (List ℕ → List Act) → ℕ → Reading → List Act
inside_other followed zero rest = []
inside_other followed (suc depth) rest =
    acts_of followed (second_part rest) ++ beyond (inside followed depth) (behind_end rest)

-- what comes of a rest that may be there
abbrev pub then_rest : (Reading → Option Reading) → Option Reading → Option Reading
then_rest next None = None
then_rest next (Some rest) = next rest

-- what comes behind so many signs `$.` that are free in the rest
abbrev pub past : ℕ → Reading → Option Reading
past zero rest = Some rest
past (suc ends) rest = then_rest (past ends) (behind_end rest)

-- the signs `$.` that are to be passed behind a construct of that kind
abbrev pub ends_behind : Kind → ℕ → ℕ
ends_behind Test ends = suc ends
ends_behind End zero = zero
ends_behind End (suc ends) = ends
ends_behind Plain ends = ends
ends_behind Reference ends = ends
ends_behind Else ends = ends
ends_behind Unclosed ends = ends

-- the place is the one behind those signs
abbrev pub IsPast : Scope → List ℕ → ℕ → ℕ → Option ℕ → Type 0
IsPast scope text ends from None = past ends (rest_at scope text from) ≡ None
IsPast scope text ends from (Some place) =
    (past ends (rest_at scope text from) ≡ Some (rest_at scope text place)) × (from ≤ place)
    × (place ≤ length text)

-- a conditional that begins behind a test is passed to its end
abbrev pub IsBehind : Scope → List ℕ → Kind → ℕ → Option ℕ → Type 0
IsBehind scope text Test next passed = IsPast scope text 1 next passed
IsBehind scope text Plain next passed = passed ≡ Some next
IsBehind scope text Reference next passed = passed ≡ Some next
IsBehind scope text Else next passed = passed ≡ Some next
IsBehind scope text End next passed = passed ≡ Some next
IsBehind scope text Unclosed next passed = passed ≡ Some next

-- the other part of the conditional begins there, or there is none and the conditional ends there,
-- or nothing closes it
abbrev pub IsMark : Scope → List ℕ → ℕ → Mark → Type 0
IsMark scope text from (OtherPart place) =
    (second_part (rest_at scope text from) ≡ first_part (rest_at scope text place))
    × (behind_end (rest_at scope text from) ≡ behind_end (rest_at scope text place))
    × (from ≤ place) × (place ≤ length text)
IsMark scope text from (Behind place) =
    (second_part (rest_at scope text from) ≡ Nothing)
    × (behind_end (rest_at scope text from) ≡ Some (rest_at scope text place)) × (from ≤ place)
    × (place ≤ length text)
IsMark scope text from NoMark = (second_part (rest_at scope text from) ≡ Nothing)
    × (behind_end (rest_at scope text from) ≡ None)
