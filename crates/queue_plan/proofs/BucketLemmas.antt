-- Places of headings, gathered one after the other.
use Rattle.std.proofs.Common.{◌≡◌, ℕ, suc, ◌+◌, ◌<◌, List, [], ◌∷◌, ◌++◌, Bool, true, false, ◌||◌, cond, Option, None, Some, if◌then◌else◌, length, refl, sym, ◌∙◌, ap, subst, take, get_or, arith}
use Rattle.std.specs.Prelude.{bytes_eq, map, OnOk, Result, Ok, Err, unwrap_or}
use Rattle.std.specs.Cmp.{IsEquivalence}
use Rattle.std.specs.Cmp.Derive.{both_true}
use Rattle.std.specs.Cmp.Lexicographic.{nat_list_eq_equiv, bytes_decides}
use Rattle.std.specs.List.{list_any}
use Rattle.std.specs.Map.{lookup, set_value}
use Rattle.std.proofs.lemmas.Bool.{and_parts}
use Rattle.std.proofs.lemmas.List.{length-take-le, map-append, take_more}
use Rattle.indexmap.specs.IndexMap.{insert_entry}
use Rattle.queue_plan.specs.declared.heading.Heading.{Heading}
use Rattle.queue_plan.specs.inner.Buckets.{Buckets, gathered, places_from, put}
use Rattle.queue_plan.specs.Parts.{same_heading}
use Rattle.queue_plan.specs.Rows.{AreApart, firsts}
use Rattle.queue_plan.proofs.FirstLemmas.{any_firsts, apart_firsts, equiv_of, firsts_push}

-- headings that are the same are one
pub one_heading : (x y : Heading) → same_heading x y ≡ true → x ≡ y
one_heading x y e =
    let h = and_parts (bytes_eq x.sender y.sender) (bytes_eq x.group y.group) e in
    let s = (bytes_decides x.sender y.sender).0 h.0 in
    let g = (bytes_decides x.group y.group).0 h.1 in
    λ i. record { sender = s i; group = g i }

pub headings_equiv : IsEquivalence same_heading
headings_equiv = equiv_of same_heading one_heading (λ x. both_true (nat_list_eq_equiv.refl x.sender) (nat_list_eq_equiv.refl x.group))

-- ---- a place in a map of buckets

set_there : (heading : Heading) (w v : List ℕ) (es : Buckets) → lookup (same_heading heading) es ≡ Some v → set_value (same_heading heading) es w ≡ insert_entry same_heading es heading w
set_there heading w v [] there = cc
set_there heading w v (e ∷ es) there = let rest = set_there heading w v es in grind (arith, rest)

-- a place that is pushed behind those that are there
pub put_there : {A E : Type 0} (result : Result A E) (heading : Heading) (place : ℕ) (places w : List ℕ) (es new : Buckets) → Some places ≡ lookup (same_heading heading) es → new ≡ set_value (same_heading heading) es w → OnOk result (w ≡ places ++ place ∷ []) → OnOk result (new ≡ put heading place es)
put_there (Ok x) heading place places w es new there is more =
    is ∙ set_there heading w places es (sym there)
    ∙ ap (insert_entry same_heading es heading) (more ∙ ap (λ o. unwrap_or o [] ++ place ∷ []) there)
put_there (Err e) heading place places w es new there is more = tt

-- ---- a heading more

abbrev last_place : Bool → ℕ → List ℕ
last_place c n = if c then n ∷ [] else []

-- the places of a heading, with one heading more
pub places_push : (n : ℕ) (heading : Heading) (hs : List Heading) (h : Heading) → places_from n heading (hs ++ h ∷ []) ≡ places_from n heading hs ++ last_place (same_heading heading h) (n + length hs)
places_push n heading [] h = ap (last_place (same_heading heading h)) (omega arith)
places_push n heading (x ∷ xs) h = by (same_heading heading x) (places_push (suc n) heading xs h ∙ ap (λ k. places_from (suc n) heading xs ++ last_place (same_heading heading h) k) (omega arith))
  where
    by : (c : Bool) → places_from (suc n) heading (xs ++ h ∷ []) ≡ places_from (suc n) heading xs ++ last_place (same_heading heading h) (n + suc (length xs))
        → (if c then n ∷ places_from (suc n) heading (xs ++ h ∷ []) else places_from (suc n) heading (xs ++ h ∷ []))
        ≡ (if c then n ∷ places_from (suc n) heading xs else places_from (suc n) heading xs) ++ last_place (same_heading heading h) (n + suc (length xs))
    by true rest = ap (λ ps. n ∷ ps) rest
    by false rest = rest

-- the same from the first place on
first_places : (heading : Heading) (hs : List Heading) (h : Heading) → places_from 0 heading (hs ++ h ∷ []) ≡ places_from 0 heading hs ++ last_place (same_heading heading h) (length hs)
first_places heading hs h = places_push 0 heading hs h ∙ ap (λ k. places_from 0 heading hs ++ last_place (same_heading heading h) k) (omega arith)

-- a heading that is none of these has no places
pub no_places : (n : ℕ) (heading : Heading) (hs : List Heading) → list_any (same_heading heading) hs ≡ false → places_from n heading hs ≡ []
no_places n heading [] none = refl
no_places n heading (x ∷ xs) none = by (same_heading heading x) none (no_places (suc n) heading xs)
  where
    by : (c : Bool) → (c || list_any (same_heading heading) xs) ≡ false → (list_any (same_heading heading) xs ≡ false → places_from (suc n) heading xs ≡ []) → (if c then n ∷ places_from (suc n) heading xs else places_from (suc n) heading xs) ≡ []
    by true e rest = absurd (cc e)
    by false e rest = rest e

module _ (hs : List Heading) (h : Heading) where
  abbrev n : ℕ
  n = length hs

  abbrev entry : Heading → Heading × List ℕ
  entry heading = (heading, places_from 0 heading hs)

  abbrev entry_more : Heading → Heading × List ℕ
  entry_more heading = (heading, places_from 0 heading (hs ++ h ∷ []))

  abbrev own : List ℕ
  own = places_from 0 h hs

  -- the places of another heading stay
  stays : (k : Heading) → same_heading h k ≡ false → entry_more k ≡ entry k
  stays k e = (λ i. (k, (first_places k hs h ∙ ap (λ c. places_from 0 k hs ++ last_place c n) (headings_equiv.symm k h ∙ e) ∙ nothing (places_from 0 k hs)) i))
    where
      nothing : (zs : List ℕ) → zs ++ [] ≡ zs
      nothing [] = refl
      nothing (z ∷ zs) = ap (λ q. z ∷ q) (nothing zs)

  -- its own get one more
  grows : entry_more h ≡ (h, own ++ n ∷ [])
  grows = (λ i. (h, (first_places h hs h ∙ ap (λ c. own ++ last_place c n) (headings_equiv.refl h)) i))

  all_stay : (ks : List Heading) → list_any (same_heading h) ks ≡ false → map entry_more ks ≡ map entry ks
  all_stay [] none = refl
  all_stay (k ∷ ks) none = by (same_heading h k) refl none (all_stay ks)
    where
      by : (c : Bool) → same_heading h k ≡ c → (c || list_any (same_heading h) ks) ≡ false → (list_any (same_heading h) ks ≡ false → map entry_more ks ≡ map entry ks) → map entry_more (k ∷ ks) ≡ map entry (k ∷ ks)
      by true e none rest = absurd (cc none)
      by false e none rest = (λ i. stays k e i ∷ rest none i)

  abbrev found : Bool → Heading → List Heading → Option (List ℕ)
  found c k ks = cond c (Some (places_from 0 k hs)) (lookup (same_heading h) (map entry ks))

  -- its places are those that the map has
  found_own : (ks : List Heading) → list_any (same_heading h) ks ≡ true → lookup (same_heading h) (map entry ks) ≡ Some own
  found_own [] some = absurd (cc some)
  found_own (k ∷ ks) some = by (same_heading h k) refl some (found_own ks)
    where
      by : (c : Bool) → same_heading h k ≡ c → (c || list_any (same_heading h) ks) ≡ true → (list_any (same_heading h) ks ≡ true → lookup (same_heading h) (map entry ks) ≡ Some own) → lookup (same_heading h) (map entry (k ∷ ks)) ≡ Some own
      by true e some rest = ap (λ c. found c k ks) e ∙ ap (λ x. Some (places_from 0 x hs)) (sym (one_heading h k e))
      by false e some rest = ap (λ c. found c k ks) e ∙ rest some

  found_none : (ks : List Heading) → list_any (same_heading h) ks ≡ false → lookup (same_heading h) (map entry ks) ≡ None
  found_none [] none = refl
  found_none (k ∷ ks) none = by (same_heading h k) refl none (found_none ks)
    where
      by : (c : Bool) → same_heading h k ≡ c → (c || list_any (same_heading h) ks) ≡ false → (list_any (same_heading h) ks ≡ false → lookup (same_heading h) (map entry ks) ≡ None) → lookup (same_heading h) (map entry (k ∷ ks)) ≡ None
      by true e none rest = absurd (cc none)
      by false e none rest = ap (λ c. found c k ks) e ∙ rest none

  abbrev inserted : Bool → Heading → List Heading → List ℕ → Buckets
  inserted c k ks w = if c then (k, w) ∷ map entry ks else entry k ∷ insert_entry same_heading (map entry ks) h w

  grown : (ks : List Heading) → AreApart same_heading ks → list_any (same_heading h) ks ≡ true → insert_entry same_heading (map entry ks) h (own ++ n ∷ []) ≡ map entry_more ks
  grown [] apart some = absurd (cc some)
  grown (k ∷ ks) apart some = by (same_heading h k) refl some (grown ks apart.1)
    where
      by : (c : Bool) → same_heading h k ≡ c → (c || list_any (same_heading h) ks) ≡ true → (list_any (same_heading h) ks ≡ true → insert_entry same_heading (map entry ks) h (own ++ n ∷ []) ≡ map entry_more ks) → insert_entry same_heading (map entry (k ∷ ks)) h (own ++ n ∷ []) ≡ map entry_more (k ∷ ks)
      by true e some rest =
          let is = one_heading h k e in
          let none : list_any (same_heading h) ks ≡ false = subst (λ (x : Heading). list_any (same_heading x) ks ≡ false) (sym is) apart.0 in
          ap (λ c. inserted c k ks (own ++ n ∷ [])) e
          ∙ (λ i. (sym is i, own ++ n ∷ []) ∷ sym (all_stay ks none) i)
          ∙ ap (λ x. x ∷ map entry_more ks) (sym grows ∙ ap entry_more is)
      by false e some rest = ap (λ c. inserted c k ks (own ++ n ∷ [])) e ∙ (λ i. sym (stays k e) i ∷ rest some i)

  put_new : (ks : List Heading) (w : List ℕ) → list_any (same_heading h) ks ≡ false → insert_entry same_heading (map entry ks) h w ≡ map entry ks ++ (h, w) ∷ []
  put_new [] w none = refl
  put_new (k ∷ ks) w none = by (same_heading h k) refl none (put_new ks w)
    where
      by : (c : Bool) → same_heading h k ≡ c → (c || list_any (same_heading h) ks) ≡ false → (list_any (same_heading h) ks ≡ false → insert_entry same_heading (map entry ks) h w ≡ map entry ks ++ (h, w) ∷ []) → insert_entry same_heading (map entry (k ∷ ks)) h w ≡ map entry (k ∷ ks) ++ (h, w) ∷ []
      by true e none rest = absurd (cc none)
      by false e none rest = ap (λ c. inserted c k ks w) e ∙ ap (λ q. entry k ∷ q) (rest none)

  abbrev ks : List Heading
  ks = firsts same_heading hs

  put_by : (c : Bool) → list_any (same_heading h) ks ≡ c → put h n (map entry ks) ≡ map entry_more (if c then ks else ks ++ h ∷ [])
  put_by true e =
      ap (λ o. insert_entry same_heading (map entry ks) h (unwrap_or o [] ++ n ∷ [])) (found_own ks e)
      ∙ grown ks (apart_firsts same_heading headings_equiv hs) e
  put_by false e =
      let none : own ≡ [] = no_places 0 h hs (sym (any_firsts same_heading headings_equiv h hs) ∙ e) in
      ap (λ o. insert_entry same_heading (map entry ks) h (unwrap_or o [] ++ n ∷ [])) (found_none ks e)
      ∙ put_new ks (n ∷ []) e
      ∙ (λ i. sym (all_stay ks e) i ++ (h, sym none i ++ n ∷ []) ∷ [])
      ∙ ap (λ x. map entry_more ks ++ x ∷ []) (sym grows)
      ∙ sym (map-append entry_more ks (h ∷ []))

  -- the place of one heading more is put behind those of its own
  pub gathered_push : put h n (gathered hs) ≡ gathered (hs ++ h ∷ [])
  gathered_push = put_by (list_any (same_heading h) ks) refl ∙ ap (map entry_more) (sym (firsts_push same_heading headings_equiv hs h))

-- the next place of a list
pub next_place : (hs : List Heading) (i : ℕ) (h : Heading) (old new : Buckets) → i < length hs → h ≡ get_or hs i h → old ≡ gathered (take i hs) → new ≡ put h i old → new ≡ gathered (take (i + 1) hs)
next_place hs i h old new below is was now =
    now ∙ ap (put h i) was
    ∙ ap (λ k. put h k (gathered (take i hs))) long
    ∙ gathered_push (take i hs) h
    ∙ ap gathered (ap (λ x. take i hs ++ x ∷ []) is ∙ sym (take_more hs i h below))
  where
    long : i ≡ length (take i hs)
    long = sym (length-take-le i hs (omega arith))
