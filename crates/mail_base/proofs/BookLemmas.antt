-- What a book holds as it grows.
use Rattle.std.proofs.Common.{◌≡◌, ℕ, zero, suc, ◌+◌, ◌<◌, List, [], ◌∷◌, ◌++◌, true, false, ◌||◌, Some, length, set, get_or, take, slice_get, refl, ap, sym, subst, ◌∙◌, arith, inl, inr, ◌⊎◌}
use Rattle.std.specs.List.{list_any}
use Rattle.std.specs.Str.{str_eq_ignore_ascii_case}
use Rattle.std.proofs.Math.Bool.{or-false}
use Rattle.std.proofs.lemmas.List.Folds.{list_any-append, list_any_more}
use Rattle.std.proofs.lemmas.Option.{slice_get-get_or}
use Rattle.std.specs.Prelude.{Result, Ok, Err, OnOk, OnErr}
use Rattle.std.proofs.lemmas.List.{set-get_or}
use Rattle.mail_base.specs.declared.fault.NoMemory.{NoMemory}
use Rattle.mail_base.specs.Places.{Held, is_held_for, IsIndexed, Keeps}
use Rattle.mail_base.specs.Rulesets.{Ruled, is_named, with_name}
use Rattle.mail_base.specs.inner.Books.{HoldsAll}
use Rattle.std.proofs.lemmas.Bool.{or_cases}
use Rattle.mail_base.proofs.PlaceLemmas.{held_alike}

-- where each ruleset is held for its names, the first of each name is
pub indexed_first : (sets shown : List Ruled) (held : Held) → shown ≡ sets → HoldsAll sets held → IsIndexed is_named shown held
indexed_first sets shown held same all =
    subst (λ (s : List Ruled). IsIndexed is_named s held) (sym same) (λ name place first. all name place first.one first.stands first.passes)

-- what was held is held still
pub still_indexed : (sets : List Ruled) (was now : Held) → Keeps was now → HoldsAll sets was → HoldsAll sets now
still_indexed sets was now keeps indexed = λ name place set at named. keeps name place (indexed name place set at named)

module _ {X : Type 0} where
  push_cases : (xs : List X) (y : X) (k : ℕ) (x : X) → slice_get (xs ++ y ∷ []) k ≡ Some x → (slice_get xs k ≡ Some x) ⊎ ((k ≡ length xs) × (x ≡ y))
  push_cases [] y zero x h = inr (refl, sym (cc h))
  push_cases [] y (suc k) x h = absurd (cc h)
  push_cases (z ∷ xs) y zero x h = inl h
  push_cases (z ∷ xs) y (suc k) x h = by (push_cases xs y k x h)
    where
      by : (slice_get xs k ≡ Some x) ⊎ ((k ≡ length xs) × (x ≡ y)) → (slice_get xs k ≡ Some x) ⊎ ((suc k ≡ suc (length xs)) × (x ≡ y))
      by (inl p) = inl p
      by (inr q) = inr (ap suc q.0, q.1)

  set_cases : (xs : List X) (i k : ℕ) (y x : X) → slice_get (set xs i y) k ≡ Some x → (slice_get xs k ≡ Some x) ⊎ ((k ≡ i) × (x ≡ y) × (i < length xs))
  set_cases [] i k y x h = inl h
  set_cases (z ∷ xs) zero zero y x h = inr (refl, sym (cc h), omega arith)
  set_cases (z ∷ xs) zero (suc k) y x h = inl h
  set_cases (z ∷ xs) (suc i) zero y x h = inl h
  set_cases (z ∷ xs) (suc i) (suc k) y x h = by (set_cases xs i k y x h)
    where
      by : (slice_get xs k ≡ Some x) ⊎ ((k ≡ i) × (x ≡ y) × (i < length xs)) → (slice_get xs k ≡ Some x) ⊎ ((suc k ≡ suc i) × (x ≡ y) × (suc i < suc (length xs)))
      by (inl p) = inl p
      by (inr q) = inr (ap suc q.0, q.1, omega (arith, q.2))

-- one ruleset more, which is held for each of its names
pub pushed_set : (sets made : List Ruled) (one : Ruled) (place : ℕ) (was now : Held) → made ≡ sets ++ one ∷ [] → place ≡ length sets → Keeps was now
    → ((name : List ℕ) → is_named name one ≡ true → is_held_for name place now ≡ true) → HoldsAll sets was → HoldsAll made now
pushed_set sets made one place was now is last keeps held indexed =
    subst (λ (m : List Ruled). HoldsAll m now) (sym is) (λ name at set there named. by name at set (push_cases sets one at set there) named)
  where
    by : (name : List ℕ) (at : ℕ) (set : Ruled) → (slice_get sets at ≡ Some set) ⊎ ((at ≡ length sets) × (set ≡ one)) → is_named name set ≡ true → is_held_for name at now ≡ true
    by name at set (inl there) named = keeps name at (indexed name at set there named)
    by name at set (inr new) named =
        let here : place ≡ at = last ∙ sym new.0 in
        subst (λ (k : ℕ). is_held_for name k now ≡ true) here (held name (ap (is_named name) (sym new.1) ∙ named))

-- a ruleset with one name more, for which it is held
renamed : (sets : List Ruled) (place : ℕ) (d : Ruled) (name : List ℕ) (was now : Held) → place < length sets → Keeps was now → is_held_for name place now ≡ true
    → HoldsAll sets was → HoldsAll (set sets place (with_name (get_or sets place d) name)) now
renamed sets place d name was now lt keeps held indexed =
    λ other at one there named. by other at one (set_cases sets place at (with_name (get_or sets place d) name) one there) named
  where
    old : (other : List ℕ) → (is_named other (get_or sets place d) ≡ true) ⊎ ((str_eq_ignore_ascii_case name other || false) ≡ true) → is_held_for other place now ≡ true
    old other (inl named) = keeps other place (indexed other place (get_or sets place d) (slice_get-get_or sets place d lt) named)
    old other (inr same) = held_alike name other place now (sym (or-false (str_eq_ignore_ascii_case name other)) ∙ same) held

    by : (other : List ℕ) (at : ℕ) (one : Ruled) → (slice_get sets at ≡ Some one) ⊎ ((at ≡ place) × (one ≡ with_name (get_or sets place d) name) × (place < length sets)) → is_named other one ≡ true → is_held_for other at now ≡ true
    by other at one (inl there) named = keeps other at (indexed other at one there named)
    by other at one (inr new) named =
        let joined : is_named other (with_name (get_or sets place d) name) ≡ true = ap (is_named other) (sym new.1) ∙ named in
        let parts = list_any-append (λ given. str_eq_ignore_ascii_case given other) (get_or sets place d).names (name ∷ []) in
        subst (λ (k : ℕ). is_held_for other k now ≡ true) (sym new.0) (old other (or_cases _ _ (sym parts ∙ joined)))

-- what `push_name` leaves, whether it found memory or not
pub named_set : (r : Result (Unit {0}) NoMemory) (sets : List Ruled) (place : ℕ) (old made : Ruled) (name : List ℕ) (was now : Held) → old ≡ get_or sets place old → place < length sets
    → OnOk r (made ≡ with_name old name) → OnErr r (made ≡ old) → Keeps was now → is_held_for name place now ≡ true → HoldsAll sets was → HoldsAll (set sets place made) now
named_set (Ok x) sets place old made name was now at lt ok err keeps held indexed =
    let is : with_name (get_or sets place old) name ≡ made = ap (λ (s : Ruled). with_name s name) (sym at) ∙ sym ok in
    subst (λ (s : Ruled). HoldsAll (set sets place s) now) is (renamed sets place old name was now lt keeps held indexed)
named_set (Err x) sets place old made name was now at lt ok err keeps held indexed =
    let is : get_or sets place old ≡ made = sym at ∙ sym err in
    subst (λ (s : Ruled). HoldsAll (set sets place s) now) is
    (subst (λ (ss : List Ruled). HoldsAll ss now) (sym (set-get_or sets place old)) (still_indexed sets was now keeps indexed))

-- held for each name so far, and for the next
pub held_next : (names : List (List ℕ)) (i place : ℕ) (name : List ℕ) (was now : Held) → i < length names → name ≡ get_or names i name → Keeps was now
    → is_held_for name place now ≡ true
    → ((other : List ℕ) → list_any (λ given. str_eq_ignore_ascii_case given other) (take i names) ≡ true → is_held_for other place was ≡ true)
    → (other : List ℕ) → list_any (λ given. str_eq_ignore_ascii_case given other) (take (i + 1) names) ≡ true → is_held_for other place now ≡ true
held_next names i place name was now lt is keeps held so other there =
    by (or_cases _ _ (sym (list_any_more (λ given. str_eq_ignore_ascii_case given other) names i name lt) ∙ there))
  where
    by : (list_any (λ given. str_eq_ignore_ascii_case given other) (take i names) ≡ true) ⊎ (str_eq_ignore_ascii_case (get_or names i name) other ≡ true) → is_held_for other place now ≡ true
    by (inl before) = keeps other place (so other before)
    by (inr here) = held_alike name other place now (ap (λ (n : List ℕ). str_eq_ignore_ascii_case n other) is ∙ here) held
