-- The forms of codes, statuses and texts.
use Rattle.std.proofs.Common.{◌≡◌, ℕ, ◌+◌, ◌*◌, ◌-◌, ◌≤◌, ◌<◌, ◌⊎◌, inl, inr, List, [], ◌∷◌, Bool, true, false, Option, None, Some, map, length, take, refl, subst, arith}
use Rattle.std.specs.Prelude.{All, IsTrue, codes, position, nat_le, ◌==◌, ◌||◌, ◌&&◌}
use Rattle.std.proofs.lemmas.Bool.{cond_both, and_parts, or_cases, eqb-true, leb-true}
use Rattle.std.proofs.lemmas.List.Elements.{All-cons, All-nil}
use Rattle.mail_base.specs.Notes.{IsLineByte, blanked, is_digit, is_status}
use Rattle.mail_base.specs.Texts.{IsSaid}
use Rattle.mail_base.specs.Exits.{exit_status, numbered_status}
use Rattle.addr_route.specs.Errors.{exit_of, host_status, class_code, code_of, code_at, status_before, status_end, said}

-- ---- texts

blanked_by : (b : ℕ) (t : Bool) → (b == 10 || b == 13) ≡ t → IsLineByte (blanked b)
blanked_by b true e = rw e (grind arith)
blanked_by b false e = rw e (grind (arith, e))

-- bytes with CR and LF blanked fit in a line
pub all_blanked : (bytes : List ℕ) → All IsLineByte (map blanked bytes)
all_blanked [] = All-nil IsLineByte
all_blanked (b ∷ bytes) = All-cons IsLineByte (blanked b) (map blanked bytes) (blanked_by b (b == 10 || b == 13) refl) (all_blanked bytes)

-- what is said of a refusal has the form of a reply's text
pub said_form : (text : List ℕ) → IsSaid (said text)
said_form [] = all_blanked (codes "Refused")
said_form (b ∷ bytes) = all_blanked (b ∷ bytes)

-- what is said of a refusal is never empty
pub said_some : (text : List ℕ) → 0 < length (said text)
said_some [] = omega arith
said_some (b ∷ bytes) = omega arith

-- ---- statuses

pub numbered_form : (exit : ℕ) → IsTrue (is_status (numbered_status exit))
numbered_form exit =
    let P : List ℕ → Type 0 = λ s. IsTrue (is_status s) in
    cond_both (exit == 64) _ _ P (λ _. refl) (λ _.
    cond_both (exit == 65) _ _ P (λ _. refl) (λ _.
    cond_both (exit == 67) _ _ P (λ _. refl) (λ _.
    cond_both (exit == 68) _ _ P (λ _. refl) (λ _.
    cond_both (exit == 75) _ _ P (λ _. refl) (λ _.
    cond_both (exit == 76) _ _ P (λ _. refl) (λ _.
    cond_both (exit == 77) _ _ P (λ _. refl) (λ _.
    cond_both (exit == 78) _ _ P (λ _. refl) (λ _. refl))))))))

pub exit_form : (exit : Option ℕ) → IsTrue (is_status (exit_status exit))
exit_form None = refl
exit_form (Some exit) = numbered_form exit

-- the status that an error's host gives has a status's form
pub host_form : (host : List ℕ) → IsTrue (is_status (host_status host))
host_form host = cond_both (is_status host) host (exit_status (exit_of host)) (λ s. IsTrue (is_status s)) (λ e. e) (λ _. exit_form (exit_of host))

pub before_form : (at : Option ℕ) (text : List ℕ) (place : ℕ) → status_before at text ≡ Some place → IsTrue (is_status (take place text))
before_form None text place e = absurd (cc e)
before_form (Some at) text place e = cond_both (is_status (take at text)) (Some at) None (λ (o : Option ℕ). o ≡ Some place → IsTrue (is_status (take place text)))
    (λ t same. let is : at ≡ place = cc same in subst (λ p. IsTrue (is_status (take p text))) is t) (λ _ none. absurd (cc none)) e

-- what stands before the end of a text's status has a status's form
pub end_form : (text : List ℕ) (place : ℕ) → status_end text ≡ Some place → IsTrue (is_status (take place text))
end_form text place e = before_form (position (λ byte. byte == 32) text) text place e

-- ---- codes

-- a reply code from 400 to 599
abbrev pub IsCode : ℕ → Type 0
IsCode code = (400 ≤ code) × (code ≤ 599)

-- the code that a status's class gives is from 400 to 599
pub class_form : (status : List ℕ) → IsCode (class_code status)
class_form status = cond_both _ 450 550 IsCode (λ _. (omega arith, omega arith)) (λ _. (omega arith, omega arith))

digit_form : (b : ℕ) → is_digit b ≡ true → (48 ≤ b) × (b ≤ 57)
digit_form b t = let p = and_parts (nat_le 48 b) (nat_le b 57) t in (leb-true 48 b p.0, leb-true b 57 p.1)

number_form : (class tens ones : ℕ) → (class ≡ 52) ⊎ (class ≡ 53) → (48 ≤ tens) × (tens ≤ 57) → (48 ≤ ones) × (ones ≤ 57) → IsCode ((class - 48) * 100 + ((tens - 48) * 10 + (ones - 48)))
number_form class tens ones (inl c) t o = let a = t.0 in let b = t.1 in let d = o.0 in let e = o.1 in (omega (arith, c), omega (arith, c))
number_form class tens ones (inr c) t o = let a = t.0 in let b = t.1 in let d = o.0 in let e = o.1 in (omega (arith, c), omega (arith, c))

class_is : (class : ℕ) → (class == 52 || class == 53) ≡ true → (class ≡ 52) ⊎ (class ≡ 53)
class_is class t = elim (or_cases (class == 52) (class == 53) t) [
  | inl e ↦ inl (eqb-true class 52 e)
  | inr e ↦ inr (eqb-true class 53 e)
]

code_form : (class tens ones blank code : ℕ) → code_of class tens ones blank ≡ Some code → IsCode code
code_form class tens ones blank code e =
    let number : ℕ = (class - 48) * 100 + ((tens - 48) * 10 + (ones - 48)) in
    cond_both ((class == 52 || class == 53) && (is_digit tens && (is_digit ones && blank == 32))) (Some number) None (λ (o : Option ℕ). o ≡ Some code → IsCode code)
    (λ t same.
    let is : number ≡ code = cc same in
    let p = and_parts (class == 52 || class == 53) (is_digit tens && (is_digit ones && blank == 32)) t in
    let q = and_parts (is_digit tens) (is_digit ones && blank == 32) p.1 in
    let r = and_parts (is_digit ones) (blank == 32) q.1 in
    subst IsCode is (number_form class tens ones (class_is class p.0) (digit_form tens q.0) (digit_form ones r.0)))
    (λ _ none. absurd (cc none)) e

-- a code read at a text's front is from 400 to 599
pub code_at_form : (text : List ℕ) (code : ℕ) → code_at text ≡ Some code → IsCode code
code_at_form [] code e = absurd (cc e)
code_at_form (class ∷ []) code e = absurd (cc e)
code_at_form (class ∷ tens ∷ []) code e = absurd (cc e)
code_at_form (class ∷ tens ∷ ones ∷ []) code e = absurd (cc e)
code_at_form (class ∷ tens ∷ ones ∷ blank ∷ rest) code e = code_form class tens ones blank code e
