-- The search for the match that is taken, item by item: whatever is taken of the rest completes
-- what is taken of all.
use Rattle.std.proofs.Common.{◌≡◌, ℕ, ◌+◌, ◌<◌, ◌≤◌, ◌⊎◌, inl, inr, List, [], ◌∷◌, ◌++◌, length, take, drop, true, false, cond, zero-add, refl, sym, ◌∙◌, ap, subst, arith}
use Rattle.std.specs.Prelude.{count_by, Option, Some, None, IfSome}
use Rattle.std.proofs.lemmas.Bool.{cases_lt}
use Rattle.std.proofs.lemmas.List.Sums.{sum_by-cons}
use Rattle.std.proofs.lemmas.List.{length-drop, append_assoc, length-append, append-nil}
use Rattle.mail_base.specs.declared.token.Token.{Token}
use Rattle.mail_base.specs.declared.classes.Classes.{Classes}
use Rattle.mail_base.specs.declared.rule.Item.{Item}
use Rattle.mail_base.specs.Metas.{is_meta}
use Rattle.rule_match.specs.declared.cuts.Cut.{Cut}
use Rattle.rule_match.specs.Wants.{Want, want, wants, lists_after, meets}
use Rattle.rule_match.specs.Choices.{Fits, Chosen}
use Rattle.rule_match.specs.Kept.{is_binding, kept_cuts, IsChoice}
use Rattle.rule_match.specs.inner.Steps.{IsNext}
use Rattle.rule_match.proofs.Choosing.{choice_more, choice_none}
use Rattle.rule_match.proofs.Keeping.{kept_meta, kept_other}

-- what the rest takes completes what all items take, and where the rest fits nothing, nothing fits
pub record Goes (classes : Classes) (late : List (List Token)) (items : List Item) (tokens : List Token) (lists : List (List Token)) (rest : List Item) (left : List Token) (kept : List Cut) (start : ℕ) : Type 0 where
  pub some : (lengths : List ℕ) → Chosen (wants classes lists rest) left lengths → (whole : List ℕ) × Chosen (wants classes late items) tokens whole × (kept_cuts items 0 whole ≡ kept ++ kept_cuts rest start lengths)
  pub none : ((lengths : List ℕ) → Fits (wants classes lists rest) left lengths → ⊥) → (lengths : List ℕ) → Fits (wants classes late items) tokens lengths → ⊥
  pub room : length kept + count_by is_meta rest ≤ 20
  pub place : start + length left ≡ length tokens

-- what stands for whatever is found stands beside what is said of it
pub some_with : {X : Type 0} (P : X → Type 0) (Q : Type 0) (o : Option X) → IfSome o P → Q → IfSome o (λ x. P x × Q)
some_with P Q None h q = tt
some_with P Q (Some x) h q = (h, q)

-- a metasymbol more at the front makes their count one more
pub count_meta : (item : Item) (items : List Item) → is_meta item ≡ true → count_by is_meta (item ∷ items) ≡ 1 + count_by is_meta items
count_meta item items h = sum_by-cons (λ x. cond (is_meta x) 1 0) item items ∙ ap (λ b. cond b 1 0 + count_by is_meta items) h

count_other : (item : Item) (items : List Item) → is_meta item ≡ false → count_by is_meta (item ∷ items) ≡ count_by is_meta items
count_other item items h = let e = sum_by-cons (λ x. cond (is_meta x) 1 0) item items ∙ ap (λ b. cond b 1 0 + count_by is_meta items) h in e ∙ zero-add (count_by is_meta items)

module _ (classes : Classes) (late : List (List Token)) (items : List Item) (tokens : List Token) (lists : List (List Token)) (all : List Item) (item : Item) (after : List Item) (is : all ≡ item ∷ after) (others : List (List Token)) (others_are : others ≡ lists_after item lists)
    (left later : List Token) (kept now : List Cut) (start n : ℕ) (g : Goes classes late items tokens lists all left kept start) (next : IsNext (want classes lists item) (wants classes others after) left n) (later_is : later ≡ drop n left) where
  abbrev Both : List Want
  Both = want classes lists item ∷ wants classes others after

  both_are : wants classes lists all ≡ Both
  both_are = ap (wants classes lists) is ∙ ap (λ late. want classes lists item ∷ wants classes late after) (sym others_are)

  chosen_all : (lengths : List ℕ) → Chosen (wants classes others after) later lengths → Chosen (wants classes lists all) left (n ∷ lengths)
  chosen_all lengths chosen = subst (λ ws. Chosen ws left (n ∷ lengths)) (sym both_are) (choice_more (want classes lists item) (wants classes others after) left n lengths next (subst (λ xs. Chosen (wants classes others after) xs lengths) later_is chosen))

  none_all : ((lengths : List ℕ) → Fits (wants classes others after) later lengths → ⊥) → (lengths : List ℕ) → Fits (wants classes late items) tokens lengths → ⊥
  none_all none = g.none (λ lengths fits. choice_none (want classes lists item) (wants classes others after) left n next (λ ns h. none ns (subst (λ xs. Fits (wants classes others after) xs ns) (sym later_is) h)) lengths (subst (λ ws. Fits ws left lengths) both_are fits))

  place_all : (start + n) + length later ≡ length tokens
  place_all = let a = g.place in let b = next.within in let d = ap length later_is ∙ length-drop n left in omega arith

  -- an item that is written with `$`
  pub goes_meta : is_meta item ≡ true → now ≡ kept ++ record { start = start; length = n; binds = is_binding item } ∷ [] → Goes classes late items tokens others after later now (start + n)
  goes_meta meta now_is = record {
    some = λ lengths chosen.
        let w = g.some (n ∷ lengths) (chosen_all lengths chosen) in
        let one : kept_cuts all start (n ∷ lengths) ≡ record { start = start; length = n; binds = is_binding item } ∷ kept_cuts after (start + n) lengths = ap (λ is. kept_cuts is start (n ∷ lengths)) is ∙ kept_meta item after start n lengths meta in
        (w.0, w.1, w.2 ∙ ap (λ cs. kept ++ cs) one ∙ sym (append_assoc kept (record { start = start; length = n; binds = is_binding item } ∷ []) (kept_cuts after (start + n) lengths)) ∙ ap (λ cs. cs ++ kept_cuts after (start + n) lengths) (sym now_is));
    none = none_all;
    room = let a = g.room in omega (arith, ap (count_by is_meta) is, count_meta item after meta, ap length now_is ∙ length-append kept (record { start = start; length = n; binds = is_binding item } ∷ []));
    place = place_all;
  }

  -- an item that isn't
  pub goes_other : is_meta item ≡ false → now ≡ kept → Goes classes late items tokens others after later now (start + n)
  goes_other meta now_is = record {
    some = λ lengths chosen.
        let w = g.some (n ∷ lengths) (chosen_all lengths chosen) in
        let one : kept_cuts all start (n ∷ lengths) ≡ kept_cuts after (start + n) lengths = ap (λ is. kept_cuts is start (n ∷ lengths)) is ∙ kept_other item after start n lengths meta in
        (w.0, w.1, w.2 ∙ ap (λ cs. kept ++ cs) one ∙ ap (λ cs. cs ++ kept_cuts after (start + n) lengths) (sym now_is));
    none = none_all;
    room = let a = g.room in omega (arith, ap (count_by is_meta) is, count_other item after meta, ap length now_is);
    place = place_all;
  }

-- nothing is taken where no item and no token are left, and all is
least_none : Chosen [] [] []
least_none = record { fits = tt; least = λ others fits. tt }

module _ (classes : Classes) (late : List (List Token)) (items : List Item) (tokens : List Token) (lists : List (List Token)) (rest : List Item) (left : List Token) (kept : List Cut) (start : ℕ) (g : Goes classes late items tokens lists rest left kept start) (ended : rest ≡ []) where
  -- where no tokens are left, the cuts that are kept are the choice
  pub goes_end : length left ≡ 0 → IsChoice classes late items tokens kept
  goes_end empty = ends left empty g
    where
      ends : (xs : List Token) → length xs ≡ 0 → Goes classes late items tokens lists rest xs kept start → IsChoice classes late items tokens kept
      ends [] e h =
          let w = h.some [] (subst (λ is. Chosen (wants classes lists is) [] []) (sym ended) least_none) in
          (w.0, w.1, sym (w.2 ∙ ap (λ is. kept ++ kept_cuts is start []) ended ∙ append-nil kept))
      ends (x ∷ xs) e h = absurd (omega arith)

  -- where no items are left but tokens are, nothing fits
  pub goes_over : (length left ≡ 0 → ⊥) → (lengths : List ℕ) → Fits (wants classes late items) tokens lengths → ⊥
  goes_over more = g.none (λ lengths fits. over left more lengths (subst (λ is. Fits (wants classes lists is) left lengths) ended fits))
    where
      over : (xs : List Token) → (length xs ≡ 0 → ⊥) → (lengths : List ℕ) → Fits [] xs lengths → ⊥
      over [] some lengths fits = some refl
      over (x ∷ xs) some lengths fits = fits

-- the next item takes nothing
pub goes_stuck : (classes : Classes) (late : List (List Token)) (items : List Item) (tokens : List Token) (lists : List (List Token)) (all : List Item) (item : Item) (after : List Item) (left : List Token) (kept : List Cut) (start : ℕ) → Goes classes late items tokens lists all left kept start → all ≡ item ∷ after
    → (others : List (List Token)) → others ≡ lists_after item lists → ((n : ℕ) (later : List ℕ) → Fits (want classes lists item ∷ wants classes others after) left (n ∷ later) → ⊥) → (lengths : List ℕ) → Fits (wants classes late items) tokens lengths → ⊥
goes_stuck classes late items tokens lists all item after left kept start g is others others_are none = g.none (λ lengths fits. stuck lengths (subst (λ ws. Fits ws left lengths) both_are fits))
  where
    both_are : wants classes lists all ≡ want classes lists item ∷ wants classes others after
    both_are = ap (wants classes lists) is ∙ ap (λ late. want classes lists item ∷ wants classes late after) (sym others_are)

    stuck : (lengths : List ℕ) → Fits (want classes lists item ∷ wants classes others after) left lengths → ⊥
    stuck [] h = h
    stuck (n ∷ later) h = none n later h

-- no items take no tokens, with no cuts
pub tried_none : (classes : Classes) (late : List (List Token)) (items : List Item) (left : List Token) (start : ℕ) (kept : List Cut) → items ≡ [] → left ≡ [] → kept ≡ [] → (lengths : List ℕ) × Chosen (wants classes late items) left lengths × (kept ≡ kept_cuts items start lengths)
tried_none classes late items left start kept none over empty =
    let chosen : Chosen (wants classes late []) [] [] = record { fits = tt; least = λ others fits. tt } in
    ([], subst (λ is. Chosen (wants classes late is) left []) (sym none) (subst (λ xs. Chosen (wants classes late []) xs []) (sym over) chosen), empty ∙ ap (λ is. kept_cuts is start []) (sym none))

-- the first length that leaves a match to the others, when the lengths of the first item are tried
-- in order
module _ (classes : Classes) (late : List (List Token)) (items : List Item) (item : Item) (after : List Item) (is : items ≡ item ∷ after) (others : List (List Token)) (others_are : others ≡ lists_after item late) (left piece later : List Token) (start n : ℕ) (piece_is : piece ≡ take n left) (later_is : later ≡ drop n left)
    (within : n ≤ length left) (met : meets (want classes late item) piece ≡ true) (none : (m : ℕ) (lengths : List ℕ) → m < n → Fits (want classes late item ∷ wants classes others after) left (m ∷ lengths) → ⊥) (kept : List Cut)
    (found : (lengths : List ℕ) × Chosen (wants classes others after) later lengths × (kept ≡ kept_cuts after (start + n) lengths)) where
  rest : Chosen (wants classes others after) (drop n left) found.0
  rest = subst (λ xs. Chosen (wants classes others after) xs found.0) later_is found.1

  first_of : (m : ℕ) (lengths : List ℕ) → Fits (want classes late item ∷ wants classes others after) left (m ∷ lengths) → (m < n) ⊎ (n ≤ m) → n ≤ m
  first_of m lengths h (inl lt) = absurd (none m lengths lt h)
  first_of m lengths h (inr le) = le

  next : IsNext (want classes late item) (wants classes others after) left n
  next = record {
    within = within;
    met = ap (meets (want classes late item)) (sym piece_is) ∙ met;
    first = λ m lengths h. first_of m lengths h (cases_lt m n);
    enough = λ m lengths h. (found.0, rest.fits);
  }

  all : Chosen (wants classes late items) left (n ∷ found.0)
  all =
      let both_are : wants classes late items ≡ want classes late item ∷ wants classes others after = ap (wants classes late) is ∙ ap (λ late2. want classes late item ∷ wants classes late2 after) (sym others_are) in
      subst (λ xs. Chosen xs left (n ∷ found.0)) (sym both_are) (choice_more (want classes late item) (wants classes others after) left n found.0 next rest)

  -- a metasymbol and what the rest takes are chosen, with a cut more
  pub tried_meta : is_meta item ≡ true → (lengths : List ℕ) × Chosen (wants classes late items) left lengths × (record { start = start; length = n; binds = is_binding item } ∷ kept ≡ kept_cuts items start lengths)
  tried_meta meta = (n ∷ found.0, all, ap (λ cs. record { start = start; length = n; binds = is_binding item } ∷ cs) found.2 ∙ sym (kept_meta item after start n found.0 meta) ∙ ap (λ is. kept_cuts is start (n ∷ found.0)) (sym is))

  -- a token and what the rest takes are chosen, with the same cuts
  pub tried_other : is_meta item ≡ false → (lengths : List ℕ) × Chosen (wants classes late items) left lengths × (kept ≡ kept_cuts items start lengths)
  tried_other meta = (n ∷ found.0, all, found.2 ∙ sym (kept_other item after start n found.0 meta) ∙ ap (λ is. kept_cuts is start (n ∷ found.0)) (sym is))
