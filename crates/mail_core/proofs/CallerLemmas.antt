-- Callers and the sessions for which they stand, place by place.
use Rattle.std.proofs.Common.{◌≡◌, ℕ, zero, suc, ◌<◌, ◌≤◌, List, [], ◌∷◌, ◌++◌, length, get_or, set, Bool, true, false, not, Some, None, if◌then◌else◌, refl, sym, ◌∙◌, ap, subst, arith, ⊎_elim}
use Rattle.std.specs.Prelude.{nat_eq, nat_le, remove, ◌||◌}
use Rattle.std.specs.List.{AllZip, list_any}
use Rattle.std.proofs.lemmas.Bool.{cases_Bool, cond-true, cond-false, eq-eqb, eqb-true, false≢true, or_from, leb-false}
use Rattle.std.proofs.lemmas.Slice.Zip.{AllZip-long}
use Rattle.mail_core.specs.declared.caller.Caller.{Caller}
use Rattle.mail_core.specs.Guests.{AreApart, Guest, guest_of, has_number, is_here, with_guest, without}
use Rattle.mail_core.specs.Machine.{AreOpen, most_guests}
use Rattle.mail_core.specs.Sites.{Site}
use Rattle.mail_core.specs.Standing.{Keeps}
use Rattle.mail_core.specs.inner.Handling.{is_caller}

-- ---- sessions of which none has a number

or_none : (b c : Bool) → (b || c) ≡ false → (b ≡ false) × (c ≡ false)
or_none true c h = absurd (false≢true (sym h))
or_none false c h = (refl, h)

pub with_none : (now : Guest) (gs : List Guest) → is_here now.number gs ≡ false → with_guest now gs ≡ gs
with_none now [] none = refl
with_none now (g ∷ gs) none =
    let p = or_none (has_number now.number g) (is_here now.number gs) none in
    ap (λ x. x ∷ with_guest now gs) (cond-false (has_number now.number g) now g p.0) ∙ ap (λ xs. g ∷ xs) (with_none now gs p.1)

pub without_none : (s : ℕ) (gs : List Guest) → is_here s gs ≡ false → without s gs ≡ gs
without_none s [] none = refl
without_none s (g ∷ gs) none =
    let p = or_none (has_number s g) (is_here s gs) none in
    cond-true (not (has_number s g)) (g ∷ without s gs) (without s gs) (ap not p.0) ∙ ap (λ xs. g ∷ xs) (without_none s gs p.1)

pub none_found : (s : ℕ) (gs : List Guest) → is_here s gs ≡ false → guest_of s gs ≡ None
none_found s [] none = refl
none_found s (g ∷ gs) none =
    let p = or_none (has_number s g) (is_here s gs) none in
    cond-false (has_number s g) (Some g) (guest_of s gs) p.0 ∙ none_found s gs p.1

-- ---- sessions stay apart

here_by : (t : Bool) (n : ℕ) (x g : Guest) → x.number ≡ g.number → has_number n (if t then x else g) ≡ has_number n g
here_by true n x g same = ap (λ k. nat_eq k n) same
here_by false n x g same = refl

-- one that has gone on has the number that it had
here_with : (n : ℕ) (now : Guest) (gs : List Guest) → is_here n (with_guest now gs) ≡ is_here n gs
here_with n now [] = refl
here_with n now (g ∷ gs) =
    ⊎_elim
    (λ is. ap (λ b. b || is_here n (with_guest now gs)) (here_by (has_number now.number g) n now g (sym (eqb-true g.number now.number is))))
    (λ other. ap (λ x. has_number n x || is_here n (with_guest now gs)) (cond-false (has_number now.number g) now g other))
    (cases_Bool (has_number now.number g))
    ∙ ap (λ b. has_number n g || b) (here_with n now gs)

number_with : (now g : Guest) → (if has_number now.number g then now else g).number ≡ g.number
number_with now g =
    ⊎_elim
    (λ is. ap (λ (x : Guest). x.number) (cond-true (has_number now.number g) now g is) ∙ sym (eqb-true g.number now.number is))
    (λ other. ap (λ (x : Guest). x.number) (cond-false (has_number now.number g) now g other))
    (cases_Bool (has_number now.number g))

apart_with : (now : Guest) (gs : List Guest) → AreApart gs → AreApart (with_guest now gs)
apart_with now [] h = tt
apart_with now (g ∷ gs) h =
    (ap (λ n. is_here n (with_guest now gs)) (number_with now g) ∙ here_with g.number now gs ∙ h.0, apart_with now gs h.1)

none_without : (n s : ℕ) (gs : List Guest) → is_here n gs ≡ false → is_here n (without s gs) ≡ false
none_without n s [] none = refl
none_without n s (g ∷ gs) none =
    let p = or_none (has_number n g) (is_here n gs) none in
    let rest = none_without n s gs p.1 in
    ⊎_elim
    (λ is. ap (is_here n) (cond-false (not (has_number s g)) (g ∷ without s gs) (without s gs) (ap not is)) ∙ rest)
    (λ other.
    ap (is_here n) (cond-true (not (has_number s g)) (g ∷ without s gs) (without s gs) (ap not other))
    ∙ or_from (has_number n g) (is_here n (without s gs)) p.0 rest)
    (cases_Bool (has_number s g))

apart_without : (s : ℕ) (gs : List Guest) → AreApart gs → AreApart (without s gs)
apart_without s [] h = tt
apart_without s (g ∷ gs) h =
    ⊎_elim
    (λ is. subst AreApart (sym (cond-false (not (has_number s g)) (g ∷ without s gs) (without s gs) (ap not is))) (apart_without s gs h.1))
    (λ other. subst AreApart (sym (cond-true (not (has_number s g)) (g ∷ without s gs) (without s gs) (ap not other))) (none_without g.number s gs h.0, apart_without s gs h.1))
    (cases_Bool (has_number s g))

none_more : (n : ℕ) (gs : List Guest) (x : Guest) → is_here n gs ≡ false → has_number n x ≡ false → is_here n (gs ++ x ∷ []) ≡ false
none_more n [] x none other = or_from (has_number n x) false other refl
none_more n (g ∷ gs) x none other =
    let p = or_none (has_number n g) (is_here n gs) none in or_from (has_number n g) (is_here n (gs ++ x ∷ [])) p.0 (none_more n gs x p.1 other)

-- numbers differ in both ways
other_way : (a b : ℕ) → nat_eq a b ≡ false → nat_eq b a ≡ false
other_way a b h =
    ⊎_elim
    (λ is. absurd (false≢true (sym h ∙ eq-eqb a b (sym (eqb-true b a is)))))
    (λ other. other)
    (cases_Bool (nat_eq b a))

apart_more : (gs : List Guest) (x : Guest) → AreApart gs → is_here x.number gs ≡ false → AreApart (gs ++ x ∷ [])
apart_more [] x h none = (refl, tt)
apart_more (g ∷ gs) x h none =
    let p = or_none (has_number x.number g) (is_here x.number gs) none in
    (none_more g.number gs x h.0 (other_way g.number x.number p.0), apart_more gs x h.1 p.1)

-- ---- and few

long_with : (now : Guest) (gs : List Guest) → length (with_guest now gs) ≡ length gs
long_with now [] = refl
long_with now (g ∷ gs) = ap suc (long_with now gs)

long_without : (s : ℕ) (gs : List Guest) → length (without s gs) ≤ length gs
long_without s [] = omega arith
long_without s (g ∷ gs) =
    let rest = long_without s gs in
    ⊎_elim
    (λ is. let e = ap length (cond-false (not (has_number s g)) (g ∷ without s gs) (without s gs) (ap not is)) in omega (arith, e, rest))
    (λ other. let e = ap length (cond-true (not (has_number s g)) (g ∷ without s gs) (without s gs) (ap not other)) in omega (arith, e, rest))
    (cases_Bool (has_number s g))

long_more : {X : Type 0} (xs : List X) (x : X) → length (xs ++ x ∷ []) ≡ suc (length xs)
long_more [] x = refl
long_more (y ∷ xs) x = ap suc (long_more xs x)

-- a session that has gone on is open with the others as before
pub open_with : (now : Guest) (gs : List Guest) → AreOpen gs → AreOpen (with_guest now gs)
open_with now gs h = record { few = subst (λ n. n ≤ most_guests) (sym (long_with now gs)) h.few; apart = apart_with now gs h.apart }

-- without one of them they are open too
pub open_without : (s : ℕ) (gs : List Guest) → AreOpen gs → AreOpen (without s gs)
open_without s gs h = record { few = let fewer = long_without s gs in let few = h.few in omega (arith, fewer, few); apart = apart_without s gs h.apart }

-- and with one more, where there is room and none has its number
pub open_more : (gs : List Guest) (x : Guest) → nat_le most_guests (length gs) ≡ false → is_here x.number gs ≡ false → AreOpen gs → AreOpen (gs ++ x ∷ [])
open_more gs x room none h = record {
  few = let long = long_more gs x in let free = leb-false most_guests (length gs) room in omega (arith, long, free);
  apart = apart_more gs x h.apart none;
}

pub none_open : AreOpen []
none_open = record { few = omega arith; apart = tt }

-- ---- callers

-- what is taken out isn't missed in what was put there
pub removed_set : {X : Type 0} (xs : List X) (place : ℕ) (x : X) → remove (set xs place x) place ≡ remove xs place
removed_set [] place x = refl
removed_set (y ∷ xs) zero x = refl
removed_set (y ∷ xs) (suc place) x = ap (λ zs. y ∷ zs) (removed_set xs place x)

-- ---- the sessions for which they stand

module _ (site : Site) where
  -- a caller has a number where a session has it
  pub here_as : (s : ℕ) (cs : List Caller) (gs : List Guest) → AllZip (Keeps site) cs gs → is_here s gs ≡ list_any (is_caller s) cs
  here_as s [] [] h = refl
  here_as s [] (g ∷ gs) h = absurd h
  here_as s (c ∷ cs) [] h = absurd h
  here_as s (c ∷ cs) (g ∷ gs) h =
      ap (λ n. nat_eq n s || is_here s gs) (sym h.0.talks.number) ∙ ap (λ b. is_caller s c || b) (here_as s cs gs h.1)

  -- there are as many
  pub as_many : (cs : List Caller) (gs : List Guest) → AllZip (Keeps site) cs gs → length gs ≡ length cs
  as_many cs gs h = AllZip-long (Keeps site) cs gs h

  -- the session of a number is at its caller's place, and changes there alone
  pub record IsFoundAt (s : ℕ) (cs : List Caller) (gs : List Guest) (place : ℕ) : Type 0 where
    pub guest : Guest
    pub is : guest_of s gs ≡ Some guest
    pub number : guest.number ≡ s
    pub here : is_here s gs ≡ true
    pub keeps : (d : Caller) → Keeps site (get_or cs place d) guest
    pub goes : (c : Caller) (now : Guest) → now.number ≡ s → Keeps site c now → AllZip (Keeps site) (set cs place c) (with_guest now gs)
    pub leaves : AllZip (Keeps site) (remove cs place) (without s gs)

  found_first : (s : ℕ) (c : Caller) (cs : List Caller) (g : Guest) (gs : List Guest) → Keeps site c g → AllZip (Keeps site) cs gs → is_here g.number gs ≡ false → c.number ≡ s → IsFoundAt s (c ∷ cs) (g ∷ gs) zero
  found_first s c cs g gs k h none own =
      let number : g.number ≡ s = sym k.talks.number ∙ own in
      let mine : has_number s g ≡ true = eq-eqb g.number s number in
      let others : is_here s gs ≡ false = ap (λ n. is_here n gs) (sym number) ∙ none in record {
        guest = g;
        is = cond-true (has_number s g) (Some g) (guest_of s gs) mine;
        number = number;
        here = ap (λ b. b || is_here s gs) mine;
        keeps = λ d. k;
        goes = λ d now same keeps.
            let its : has_number now.number g ≡ true = ap (λ n. has_number n g) same ∙ mine in
            let rest : with_guest now gs ≡ gs = with_none now gs (ap (λ n. is_here n gs) same ∙ others) in
            (subst (Keeps site d) (sym (cond-true (has_number now.number g) now g its)) keeps, subst (AllZip (Keeps site) cs) (sym rest) h);
        leaves = subst (AllZip (Keeps site) cs) (sym (cond-false (not (has_number s g)) (g ∷ without s gs) (without s gs) (ap not mine) ∙ without_none s gs others)) h;
      }

  found_later : (s : ℕ) (c : Caller) (cs : List Caller) (g : Guest) (gs : List Guest) (place : ℕ) → Keeps site c g → is_here g.number gs ≡ false → IsFoundAt s cs gs place → IsFoundAt s (c ∷ cs) (g ∷ gs) (suc place)
  found_later s c cs g gs place k none f =
      let other : has_number s g ≡ false =
      ⊎_elim (λ is. absurd (false≢true (sym none ∙ ap (λ n. is_here n gs) (eqb-true g.number s is) ∙ f.here))) (λ h. h) (cases_Bool (has_number s g)) in record {
        guest = f.guest;
        is = cond-false (has_number s g) (Some g) (guest_of s gs) other ∙ f.is;
        number = f.number;
        here = ap (λ b. b || is_here s gs) other ∙ f.here;
        keeps = f.keeps;
        goes = λ d now same keeps.
            let its : has_number now.number g ≡ false = ap (λ n. has_number n g) same ∙ other in
            (subst (Keeps site c) (sym (cond-false (has_number now.number g) now g its)) k, f.goes d now same keeps);
        leaves = subst (AllZip (Keeps site) (c ∷ remove cs place)) (sym (cond-true (not (has_number s g)) (g ∷ without s gs) (without s gs) (ap not other))) (k, f.leaves);
      }

  -- where a place of the callers has a number, the session is found there
  pub found_at : (s : ℕ) (cs : List Caller) (gs : List Guest) (place : ℕ) → AllZip (Keeps site) cs gs → AreApart gs → place < length cs → ((d : Caller) → (get_or cs place d).number ≡ s) → IsFoundAt s cs gs place
  found_at s [] gs place h apart within is = let no : ⊥ = omega (arith, within) in absurd no
  found_at s (c ∷ cs) [] place h apart within is = absurd h
  found_at s (c ∷ cs) (g ∷ gs) zero h apart within is = found_first s c cs g gs h.0 h.1 apart.0 (is c)
  found_at s (c ∷ cs) (g ∷ gs) (suc place) h apart within is =
      found_later s c cs g gs place h.0 apart.0 (found_at s cs gs place h.1 apart.1 (omega (arith, within)) is)
