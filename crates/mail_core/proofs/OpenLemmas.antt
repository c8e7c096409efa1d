-- Open sessions: how many, and that their numbers differ.
use Rattle.std.proofs.Common.{◌≡◌, ℕ, suc, ◌≤◌, List, [], ◌∷◌, ◌++◌, length, Bool, true, false, not, Some, None, if◌then◌else◌, refl, sym, ◌∙◌, ap, subst, arith, ⊎_elim}
use Rattle.std.specs.Prelude.{nat_eq, nat_le, ◌||◌}
use Rattle.std.proofs.lemmas.Bool.{cases_Bool, cond-true, cond-false, eq-eqb, eqb-true, false≢true, or_from, leb-false}
use Rattle.mail_core.specs.Guests.{AreApart, Guest, guest_of, has_number, is_here, with_guest, without}
use Rattle.mail_core.specs.Machine.{AreOpen, most_guests}

-- ---- sessions of which none has a number

or_none : (b c : Bool) → (b || c) ≡ false → (b ≡ false) × (c ≡ false)
or_none true c h = absurd (false≢true (sym h))
or_none false c h = (refl, h)

pub with_none : (now : Guest) (gs : List Guest) → is_here now.number gs ≡ false → with_guest now gs ≡ gs
with_none now [] none = refl
with_none now (g ∷ gs) none =
    let p = or_none (has_number now.number g) (is_here now.number gs) none in
    ap (λ x. x ∷ with_guest now gs) (cond-false (has_number now.number g) now g p.0) ∙ ap (λ xs. g ∷ xs) (with_none now gs p.1)

pub without_none : (s : ℕ) (gs : List Guest) → is_here s gs ≡ false → without s gs ≡ gs
without_none s [] none = refl
without_none s (g ∷ gs) none =
    let p = or_none (has_number s g) (is_here s gs) none in
    cond-true (not (has_number s g)) (g ∷ without s gs) (without s gs) (ap not p.0) ∙ ap (λ xs. g ∷ xs) (without_none s gs p.1)

pub none_found : (s : ℕ) (gs : List Guest) → is_here s gs ≡ false → guest_of s gs ≡ None
none_found s [] none = refl
none_found s (g ∷ gs) none =
    let p = or_none (has_number s g) (is_here s gs) none in
    cond-false (has_number s g) (Some g) (guest_of s gs) p.0 ∙ none_found s gs p.1

-- ---- sessions stay apart

here_by : (t : Bool) (n : ℕ) (x g : Guest) → x.number ≡ g.number → has_number n (if t then x else g) ≡ has_number n g
here_by true n x g same = ap (λ k. nat_eq k n) same
here_by false n x g same = refl

-- one that has gone on has the number that it had
here_with : (n : ℕ) (now : Guest) (gs : List Guest) → is_here n (with_guest now gs) ≡ is_here n gs
here_with n now [] = refl
here_with n now (g ∷ gs) =
    ⊎_elim
    (λ is. ap (λ b. b || is_here n (with_guest now gs)) (here_by (has_number now.number g) n now g (sym (eqb-true g.number now.number is))))
    (λ other. ap (λ x. has_number n x || is_here n (with_guest now gs)) (cond-false (has_number now.number g) now g other))
    (cases_Bool (has_number now.number g))
    ∙ ap (λ b. has_number n g || b) (here_with n now gs)

number_with : (now g : Guest) → (if has_number now.number g then now else g).number ≡ g.number
number_with now g =
    ⊎_elim
    (λ is. ap (λ (x : Guest). x.number) (cond-true (has_number now.number g) now g is) ∙ sym (eqb-true g.number now.number is))
    (λ other. ap (λ (x : Guest). x.number) (cond-false (has_number now.number g) now g other))
    (cases_Bool (has_number now.number g))

apart_with : (now : Guest) (gs : List Guest) → AreApart gs → AreApart (with_guest now gs)
apart_with now [] h = tt
apart_with now (g ∷ gs) h =
    (ap (λ n. is_here n (with_guest now gs)) (number_with now g) ∙ here_with g.number now gs ∙ h.0, apart_with now gs h.1)

none_without : (n s : ℕ) (gs : List Guest) → is_here n gs ≡ false → is_here n (without s gs) ≡ false
none_without n s [] none = refl
none_without n s (g ∷ gs) none =
    let p = or_none (has_number n g) (is_here n gs) none in
    let rest = none_without n s gs p.1 in
    ⊎_elim
    (λ is. ap (is_here n) (cond-false (not (has_number s g)) (g ∷ without s gs) (without s gs) (ap not is)) ∙ rest)
    (λ other.
    ap (is_here n) (cond-true (not (has_number s g)) (g ∷ without s gs) (without s gs) (ap not other))
    ∙ or_from (has_number n g) (is_here n (without s gs)) p.0 rest)
    (cases_Bool (has_number s g))

apart_without : (s : ℕ) (gs : List Guest) → AreApart gs → AreApart (without s gs)
apart_without s [] h = tt
apart_without s (g ∷ gs) h =
    ⊎_elim
    (λ is. subst AreApart (sym (cond-false (not (has_number s g)) (g ∷ without s gs) (without s gs) (ap not is))) (apart_without s gs h.1))
    (λ other. subst AreApart (sym (cond-true (not (has_number s g)) (g ∷ without s gs) (without s gs) (ap not other))) (none_without g.number s gs h.0, apart_without s gs h.1))
    (cases_Bool (has_number s g))

none_more : (n : ℕ) (gs : List Guest) (x : Guest) → is_here n gs ≡ false → has_number n x ≡ false → is_here n (gs ++ x ∷ []) ≡ false
none_more n [] x none other = or_from (has_number n x) false other refl
none_more n (g ∷ gs) x none other =
    let p = or_none (has_number n g) (is_here n gs) none in or_from (has_number n g) (is_here n (gs ++ x ∷ [])) p.0 (none_more n gs x p.1 other)

-- numbers differ in both ways
other_way : (a b : ℕ) → nat_eq a b ≡ false → nat_eq b a ≡ false
other_way a b h =
    ⊎_elim
    (λ is. absurd (false≢true (sym h ∙ eq-eqb a b (sym (eqb-true b a is)))))
    (λ other. other)
    (cases_Bool (nat_eq b a))

apart_more : (gs : List Guest) (x : Guest) → AreApart gs → is_here x.number gs ≡ false → AreApart (gs ++ x ∷ [])
apart_more [] x h none = (refl, tt)
apart_more (g ∷ gs) x h none =
    let p = or_none (has_number x.number g) (is_here x.number gs) none in
    (none_more g.number gs x h.0 (other_way g.number x.number p.0), apart_more gs x h.1 p.1)

-- ---- and few

long_with : (now : Guest) (gs : List Guest) → length (with_guest now gs) ≡ length gs
long_with now [] = refl
long_with now (g ∷ gs) = ap suc (long_with now gs)

long_without : (s : ℕ) (gs : List Guest) → length (without s gs) ≤ length gs
long_without s [] = omega arith
long_without s (g ∷ gs) =
    let rest = long_without s gs in
    ⊎_elim
    (λ is. let e = ap length (cond-false (not (has_number s g)) (g ∷ without s gs) (without s gs) (ap not is)) in omega (arith, e, rest))
    (λ other. let e = ap length (cond-true (not (has_number s g)) (g ∷ without s gs) (without s gs) (ap not other)) in omega (arith, e, rest))
    (cases_Bool (has_number s g))

long_more : {X : Type 0} (xs : List X) (x : X) → length (xs ++ x ∷ []) ≡ suc (length xs)
long_more [] x = refl
long_more (y ∷ xs) x = ap suc (long_more xs x)

-- a session that has gone on is open with the others as before
pub open_with : (now : Guest) (gs : List Guest) → AreOpen gs → AreOpen (with_guest now gs)
open_with now gs h = record { few = subst (λ n. n ≤ most_guests) (sym (long_with now gs)) h.few; apart = apart_with now gs h.apart }

-- without one of them they are open too
pub open_without : (s : ℕ) (gs : List Guest) → AreOpen gs → AreOpen (without s gs)
open_without s gs h = record { few = let fewer = long_without s gs in let few = h.few in omega (arith, fewer, few); apart = apart_without s gs h.apart }

-- and with one more, where there is room and none has its number
pub open_more : (gs : List Guest) (x : Guest) → nat_le most_guests (length gs) ≡ false → is_here x.number gs ≡ false → AreOpen gs → AreOpen (gs ++ x ∷ [])
open_more gs x room none h = record {
  few = let long = long_more gs x in let free = leb-false most_guests (length gs) room in omega (arith, long, free);
  apart = apart_more gs x h.apart none;
}
