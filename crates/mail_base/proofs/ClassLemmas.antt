-- What a class keeps when members are put in.
use Rattle.std.proofs.Common.{◌≡◌, ℕ, List, [], ◌∷◌, ◌++◌, Bool, true, false, ◌||◌, Vec, length, take, fold, refl, ap, sym, subst, append_assoc, ◌∙◌, if◌then◌else◌}
use Rattle.std.specs.List.{list_any, IsDistinct, AllByRecursion}
use Rattle.std.specs.Cmp.{IsEquivalence}
use Rattle.std.specs.Cmp.Lexicographic.{pointwise, lists_equiv, nat_list_eq_equiv}
use Rattle.std.proofs.lemmas.List.Sums.{fold-append}
use Rattle.std.specs.Prelude.{drop, max}
use Rattle.std.proofs.lemmas.List.{append-nil, take-append-drop}
use Rattle.std.proofs.lemmas.Map.Keys.{IsDistinct-head, IsDistinct-tail}
use Rattle.std.proofs.lemmas.List.Folds.{list_any-append}
use Rattle.std.proofs.Math.Bool.{or-false}
use Rattle.indexmap.specs.IndexSet.{insert_key}
use Rattle.mail_base.specs.Masks.{head_places, heads, heads_of, with_place, with_places}
use Rattle.mail_base.specs.Classes.{longest_from, longest_phrase, phrase_length, same_member, with_members}
use Rattle.mail_base.specs.Tokens.{same_token, same_tokens}
use Rattle.mail_base.specs.inner.Phrases.{Keeps, heads_from, is_among}
use Rattle.mail_base.specs.inner.TokenLaws.{same_equiv}
use Rattle.mail_base.specs.declared.class.Member.{Member}
use Rattle.mail_base.specs.declared.token.Token.{Token}

or_true : (b : Bool) → (b || true) ≡ true
or_true true = refl
or_true false = refl

module _ {K : Type 0} where
  module _ (eq : K → K → Bool) where
    module _ (p : K → Bool) (alike : (x y : K) → eq x y ≡ true → p x ≡ p y) where
      any_alike : (k : K) (ks : List K) → list_any (eq k) ks ≡ true → p k ≡ true → list_any p ks ≡ true
      any_alike k [] found passes = found
      any_alike k (x ∷ ks) found passes = by (any_alike k ks) (eq k x) refl
        where
          by : (list_any (eq k) ks ≡ true → p k ≡ true → list_any p ks ≡ true) → (b : Bool) → eq k x ≡ b → list_any p (x ∷ ks) ≡ true
          by rest true e = ap (λ b. b || list_any p ks) (sym (alike k x e) ∙ passes)
          by rest false e = ap (λ b. p x || b) (rest (sym (ap (λ b. b || list_any (eq k) ks) e) ∙ found) passes) ∙ or_true (p x)

      settled : (k : K) (ks : List K) → list_any (eq k) ks ≡ true → (b : Bool) → p k ≡ b → list_any p ks ≡ (list_any p ks || p k)
      settled k ks found true e = let any = any_alike k ks found e in any ∙ sym (ap (λ b. b || p k) any)
      settled k ks found false e = sym (or-false (list_any p ks)) ∙ ap (λ b. list_any p ks || b) (sym e)

      -- a test that equal keys pass alike is passed by one more key where that passes
      pub any-insert_key : (ks : List K) (k : K) → list_any p (insert_key eq ks k) ≡ (list_any p ks || p k)
      any-insert_key ks k = by (list_any (eq k) ks) refl
        where
          by : (b : Bool) → list_any (eq k) ks ≡ b → list_any p (if b then ks else ks ++ k ∷ []) ≡ (list_any p ks || p k)
          by true found = settled k ks found (p k) refl
          by false new = list_any-append p ks (k ∷ []) ∙ ap (λ b. list_any p ks || b) (or-false (p k))

module _ {K : Type 0} (eq : K → K → Bool) (symm : (x y : K) → eq x y ≡ eq y x) where
  at_key : (x k : K) (done ks : List K) → AllByRecursion (λ y. eq x y ≡ false) (done ++ k ∷ ks) → eq x k ≡ false
  at_key x k [] ks all = all.0
  at_key x k (y ∷ done) ks all = at_key x k done ks all.1

  apart_front : (done : List K) (k : K) (ks : List K) → IsDistinct eq (done ++ k ∷ ks) → list_any (eq k) done ≡ false
  apart_front [] k ks distinct = refl
  apart_front (x ∷ done) k ks distinct =
      let here : eq k x ≡ false = symm k x ∙ at_key x k done ks (IsDistinct-head eq x (done ++ k ∷ ks) distinct) in
      ap (λ b. b || list_any (eq k) done) here ∙ apart_front done k ks (IsDistinct-tail eq x (done ++ k ∷ ks) distinct)

  -- distinct keys that are put in one after another stand as they were
  collected : (done ks : List K) → IsDistinct eq (done ++ ks) → fold (insert_key eq) done ks ≡ done ++ ks
  collected done [] distinct = sym (append-nil done)
  collected done (k ∷ ks) distinct =
      ap (λ b. fold (insert_key eq) (if b then done else done ++ k ∷ []) ks) (apart_front done k ks distinct)
      ∙ collected (done ++ k ∷ []) ks (subst (IsDistinct eq) (sym (append_assoc done (k ∷ []) ks)) distinct)
      ∙ append_assoc done (k ∷ []) ks

-- the members of a class, put into an empty one
pub all_again : (members : List Member) → IsDistinct same_member members → with_members [] members ≡ members
all_again members distinct = collected same_member (λ one another. nat_list_eq_equiv.symm one.text another.text) [] members distinct

-- the phrases with one more
pub among_insert : {A : Type 0} (phrases : List (Vec Token A)) (phrase : Vec Token A) (tokens : List Token) → is_among (insert_key (λ (x y : Vec Token A). pointwise same_token x.items y.items) phrases phrase) tokens ≡ (is_among phrases tokens || same_tokens tokens phrase.items)
among_insert {A} phrases phrase tokens =
    let e : IsEquivalence (pointwise same_token) = lists_equiv same_equiv in
    any-insert_key (λ (x y : Vec Token A). pointwise same_token x.items y.items) (λ (x : Vec Token A). same_tokens tokens x.items)
    (λ x y same. e.symm tokens x.items ∙ e.congr x.items y.items tokens same ∙ e.symm y.items tokens) phrases phrase

-- what is gathered of the members of a class that grew is what was, and what is new besides
grown : (step : ℕ → Member → ℕ) (old new : List Member) (least from : ℕ) → Keeps old new → from ≡ length old → least ≡ fold step 0 old → fold step least (drop from new) ≡ fold step 0 new
grown step old new least from keeps is was =
    (λ i. fold step (was i) (drop (is i) new))
    ∙ ap (λ (xs : List Member). fold step (fold step 0 xs) (drop (length old) new)) (sym keeps)
    ∙ sym (fold-append step 0 (take (length old) new) (drop (length old) new))
    ∙ ap (fold step 0) (take-append-drop (length old) new)

-- the longest phrase of a class that grew is the longest of what it was and of what is new
pub longest_grown : (old new : List Member) (least from : ℕ) → Keeps old new → from ≡ length old → least ≡ longest_phrase old → longest_from least (drop from new) ≡ longest_phrase new
longest_grown = grown (λ most member. max most (phrase_length member.tokens))

-- the places of the first tokens, put in member by member, are all of them
heads_by : (members : List Member) (mask : ℕ) → heads_from mask members ≡ with_places mask (heads members)
heads_by [] mask = refl
heads_by (member ∷ members) mask =
    heads_by members (with_places mask (head_places member.tokens)) ∙ sym (fold-append with_place mask (head_places member.tokens) (heads members))

-- and so are the places of the first tokens
pub heads_grown : (old new : List Member) (mask from : ℕ) → Keeps old new → from ≡ length old → mask ≡ heads_of old → heads_from mask (drop from new) ≡ heads_of new
heads_grown old new mask from keeps is was =
    grown (λ m member. with_places m (head_places member.tokens)) old new mask from keeps is (was ∙ sym (heads_by old 0)) ∙ heads_by new 0
