-- The rows of bits.
use Rattle.std.proofs.Common.{◌≡◌, ◌≢◌, ℕ, ◌+◌, ◌-◌, ◌*◌, ◌/◌, ◌%◌, ◌^◌, ◌<◌, ◌≤◌, inl, inr, List, [], ◌∷◌, ◌++◌, length, take, drop, get_or, set, replicate, Bool, true, false, refl, sym, ◌∙◌, ap, subst, arith, eq-eqb, eqb-true, max, cond, add-zero}
use Rattle.std.specs.Prelude.{◌==◌, ◌||◌, ◌&&◌, nat_le, not, bit_or, bit_and, Option, Some, None, IfSome, IfNone, count_by}
use Rattle.std.specs.List.{list_all}
use Rattle.std.specs.Option.{is_some, option_to_list}
use Rattle.std.specs.Cmp.Lexicographic.{as_long}
use Rattle.std.specs.Int.{bit_at}
use Rattle.std.proofs.Math.Nat.{le-max_left, le-max_right}
use Rattle.std.proofs.lemmas.Bool.{cases_eq, cases_lt, ne_eqb, both_ways, and_parts, and_from, or_cases, leb-true, le-leb}
use Rattle.std.proofs.lemmas.Nat.{mod_below, one_shl}
use Rattle.std.proofs.lemmas.List.Folds.{list_all_at}
use Rattle.std.proofs.lemmas.List.Sums.{sum_by-append, sum_by-cons}
use Rattle.std.proofs.lemmas.List.{drop-drop, length-drop, length-take-le, drop_all, same_from_push, length_push, get_or-replicate, get_or_past, length-replicate, get_or-set_same, get_or-set_other}
use Rattle.std.proofs.lemmas.Nat.Bits.{shr_and_one, bit_at_or, bit_at-zero, bit_at-pow_same, bit_at-pow_other}
use Rattle.mail_base.specs.declared.token.Token.{Token}
use Rattle.mail_base.specs.declared.class.Member.{Member}
use Rattle.mail_base.specs.declared.rule.Item.{Item}
use Rattle.mail_base.specs.declared.rule.Item.TheVariants.{Any, More, One, Empty, InClass, NotInClass, Exact, Late}
use Rattle.mail_base.specs.Classes.{is_phrase, is_cut_into, phrase_length, longest_from, longest_phrase}
use Rattle.mail_base.specs.Metas.{is_late, is_meta}
use Rattle.mail_base.specs.Tokens.{same_token}
use Rattle.rule_match.specs.Wants.{want, wants, lists_after, Want, Anything, Something, Phrase, meets, is_none}
use Rattle.rule_match.specs.Choices.{Fits}
use Rattle.rule_match.specs.inner.Steps.{is_choosing, is_free, width, IsNext}
use Rattle.rule_match.specs.inner.Rows.{has, starts_fixed, IsRow, IsLater, IsStart, IsLeast, AreRows, StandRows, fixed, choosing}
use Rattle.rule_match.proofs.Fitting.{or_none, takes_width}
use Rattle.rule_match.proofs.Choosing.{some_is, is_some as piece_is_some}
use Rattle.rule_match.proofs.Going.{count_meta}

-- the bits of a word
test_is : (words : List ℕ) (place : ℕ) → (bit_and (get_or words (place / 64) 0 / 2 ^ (place % 64)) 1 == 1) ≡ has words place
unfolding has
test_is words place = ap (λ x. x == 1) (shr_and_one (get_or words (place / 64) 0) (place % 64))

-- a test of a bit in its word tells whether the row has the place
pub has_tests : (words all : List ℕ) (place : ℕ) → words ≡ all → (bit_and (get_or words (place / 64) 0 / 2 ^ (place % 64)) 1 == 1) ≡ has all place
has_tests words all place is = test_is words place ∙ ap (λ ws. has ws place) is

zero_at : (n i nil : ℕ) → nil ≡ 0 → get_or (replicate n nil) i 0 ≡ 0
zero_at n i nil z = elim (cases_lt i n) [ inl lt ↦ get_or-replicate n i nil 0 lt ∙ z | inr le ↦ get_or_past (replicate n nil) i 0 (omega (arith, length-replicate n nil)) ]

-- a row of zero words has no place
pub has_none : (n place nil : ℕ) → nil ≡ 0 → has (replicate n nil) place ≡ false
unfolding has
has_none n place nil z = ap (λ x. x == 1) (ap (λ w. bit_at w (place % 64)) (zero_at n (place / 64) nil z) ∙ bit_at-zero (place % 64))

zero_of : (words : List ℕ) (i : ℕ) (b : Bool) → i < length words → (get_or words i 0 == 0) ≡ b → list_all (λ word. word == 0) words ≡ true → get_or words i 0 ≡ 0
zero_of words i true lt e all = eqb-true (get_or words i 0) 0 e
zero_of words i false lt e all = absurd (cc (list_all_at (λ word. word == 0) words i 0 lt e, all))

zero_in : (words : List ℕ) (i : ℕ) → list_all (λ word. word == 0) words ≡ true → get_or words i 0 ≡ 0
zero_in words i all = elim (cases_lt i (length words)) [ inl lt ↦ zero_of words i (get_or words i 0 == 0) lt refl all | inr le ↦ get_or_past words i 0 le ]

-- a row whose words are all zero has no place
pub clear_none : (words all : List ℕ) → words ≡ all → list_all (λ word. word == 0) words ≡ true → (place : ℕ) → has all place ≡ false
unfolding has
clear_none words all is zero place = ap (λ ws. bit_at (get_or ws (place / 64) 0) (place % 64) == 1) (sym is) ∙ ap (λ x. x == 1) (ap (λ w. bit_at w (place % 64)) (zero_in words (place / 64) zero) ∙ bit_at-zero (place % 64))

bit_small : (w j : ℕ) → bit_at w j < 2
bit_small w j = mod_below (w / 2 ^ j) 2 (omega arith)

set_bit : (w k j : ℕ) → k < 64 → (bit_at (bit_or w (1 * 2 ^ k % 2 ^ 64)) j == 1) ≡ (j == k || bit_at w j == 1)
set_bit w k j small =
    let m : ℕ = 1 * 2 ^ k % 2 ^ 64 in
    let shifted : m ≡ 2 ^ k = one_shl k 64 small in
    let both : bit_at (bit_or w m) j ≡ max (bit_at w j) (bit_at m j) = bit_at_or w m j in
    let low : bit_at w j < 2 = bit_small w j in
    elim (cases_eq j k) [
      | inl e ↦
          let here : bit_at m j ≡ 1 = ap (λ x. bit_at x j) shifted ∙ ap (bit_at (2 ^ k)) e ∙ bit_at-pow_same k in
          let one : bit_at (bit_or w m) j ≡ 1 = omega arith in
          eq-eqb (bit_at (bit_or w m) j) 1 one ∙ sym (ap (λ b. b || bit_at w j == 1) (eq-eqb j k e))
      | inr ne ↦
          let here : bit_at m j ≡ 0 = ap (λ x. bit_at x j) shifted ∙ bit_at-pow_other k j ne in
          let same : bit_at (bit_or w m) j ≡ bit_at w j = omega arith in
          ap (λ x. x == 1) same ∙ sym (ap (λ b. b || bit_at w j == 1) (ne_eqb j k ne))
    ]

module _ (words : List ℕ) (place other : ℕ) (within : place < 64 * length words) where
  set_in : other / 64 ≡ place / 64 → has (set words (place / 64) (bit_or (get_or words (place / 64) 0) (1 * 2 ^ (place % 64) % 2 ^ 64))) other ≡ (other == place || has words other)
  unfolding has
  set_in e =
      let now : List ℕ = set words (place / 64) (bit_or (get_or words (place / 64) 0) (1 * 2 ^ (place % 64) % 2 ^ 64)) in
      let at : get_or now (other / 64) 0 ≡ bit_or (get_or words (other / 64) 0) (1 * 2 ^ (place % 64) % 2 ^ 64) =
      ap (λ i. get_or now i 0) e ∙ get_or-set_same words (place / 64) _ 0 (omega arith) ∙ ap (λ i. bit_or (get_or words i 0) (1 * 2 ^ (place % 64) % 2 ^ 64)) (sym e) in
      let same : (other % 64 == place % 64) ≡ (other == place) = same_place in
      ap (λ w. bit_at w (other % 64) == 1) at ∙ set_bit (get_or words (other / 64) 0) (place % 64) (other % 64) (mod_below place 64 (omega arith)) ∙ ap (λ b. b || bit_at (get_or words (other / 64) 0) (other % 64) == 1) same
    where
      same_place : (other % 64 == place % 64) ≡ (other == place)
      same_place = elim (cases_eq other place) [
        | inl is ↦ eq-eqb (other % 64) (place % 64) (ap (λ x. x % 64) is) ∙ sym (eq-eqb other place is)
        | inr ne ↦ ne_eqb (other % 64) (place % 64) (λ d. ne (omega arith)) ∙ sym (ne_eqb other place ne)
      ]

  set_out : (other / 64 ≡ place / 64 → ⊥) → has (set words (place / 64) (bit_or (get_or words (place / 64) 0) (1 * 2 ^ (place % 64) % 2 ^ 64))) other ≡ (other == place || has words other)
  unfolding has
  set_out ne =
      let apart : other ≢ place = λ e. ne (ap (λ x. x / 64) e) in
      ap (λ w. bit_at w (other % 64) == 1) (get_or-set_other words (place / 64) (other / 64) _ 0 ne) ∙ sym (ap (λ b. b || bit_at (get_or words (other / 64) 0) (other % 64) == 1) (ne_eqb other place apart))

  -- a row in which a bit was set has this place and those it had
  pub has_set : has (set words (place / 64) (bit_or (get_or words (place / 64) 0) (1 * 2 ^ (place % 64) % 2 ^ 64))) other ≡ (other == place || has words other)
  has_set = elim (cases_eq (other / 64) (place / 64)) [ inl e ↦ set_in e | inr ne ↦ set_out ne ]

-- the test of an item's places is right
module _ (left : List Token) (place : ℕ) (row : List ℕ) where
  -- a want of one width starts here if it is met and ends at a place of the row
  pub start_fixed : (want : Want) → is_choosing want ≡ false → (b : Bool) → starts_fixed want left place row ≡ b → IsStart want left place row b
  start_fixed want f b is = record {
    some = λ e.
        let all = and_parts (nat_le (width want) (length left) && has row (place + width want)) (meets want (take (width want) left)) (is ∙ e) in
        let both = and_parts (nat_le (width want) (length left)) (has row (place + width want)) all.0 in
        (width want, leb-true (width want) (length left) both.0, all.1, both.1);
    none = λ e n le met set.
        let w = takes_width want left n f le met in
        let within : width want ≤ length left = subst (λ k. k ≤ length left) w le in
        let here : has row (place + width want) ≡ true = subst (λ k. has row (place + k) ≡ true) w set in
        let there : meets want (take (width want) left) ≡ true = subst (λ k. meets want (take k left) ≡ true) w met in
        both_ways (starts_fixed want left place row) (is ∙ e) (and_from _ _ (and_from _ _ (le-leb (width want) (length left) within) here) there);
  }

  module _ (later : Bool) (known : IsLater row (place + 1) (place + length left) later) where
    -- $* starts here if the row has this place or a later one
    pub start_any : (b : Bool) → (later || has row place) ≡ b → IsStart Anything left place row b
    start_any b is = record {
      some = λ e. elim (or_cases later (has row place) (is ∙ e)) [
        | inl l ↦ let s = known.some l in let a = s.1 in let z = s.2 in let n : place + (s.0 - place) ≡ s.0 = omega arith in (s.0 - place, omega arith, refl, ap (has row) n ∙ s.3)
        | inr h ↦ let n : place + 0 ≡ place = omega arith in (0, omega arith, refl, ap (has row) n ∙ h)
      ];
      none = λ e n le met set. let both = or_none later (has row place) (is ∙ e) in elim (cases_eq n 0) [
        | inl z ↦ let here : place + n ≡ place = omega arith in both_ways (has row place) both.1 (ap (has row) (sym here) ∙ set)
        | inr ne ↦ known.none both.0 (place + n) (omega arith) (omega arith) set
      ];
    }

    -- $+ starts here if the row has a later place
    pub start_more : IsStart Something left place row later
    start_more = record {
      some = λ e. let s = known.some e in let a = s.1 in let z = s.2 in let n : place + (s.0 - place) ≡ s.0 = omega arith in (s.0 - place, omega arith, piece_is_some (s.0 - place) left (omega arith) (omega arith), ap (has row) n ∙ s.3);
      none = λ e n le met set. let some = some_is n left met in known.none e (place + n) (omega arith) (omega arith) set;
    }

    -- a phrase takes a token, so it ends behind the place
    pub start_none : (members : List Member) → later ≡ false → IsStart (Phrase members) left place row false
    start_none members e = record {
      some = λ f. absurd cc;
      none = λ f n le met set. let some = some_is n left (and_parts (not (is_none (take n left))) (is_phrase (take n left) members) met).0 in known.none e (place + n) (omega arith) (omega arith) set;
    }

  -- what was found of a phrase
  pub start_found : (members : List Member) (o : Option ℕ) → IfSome o (λ n. IsLeast (Phrase members) left place row n) → IfNone o (IsStart (Phrase members) left place row false) → (b : Bool) → b ≡ is_some o → IsStart (Phrase members) left place row b
  start_found members (Some n) some none b is = record {
    some = λ e. (n, some.within, some.met, some.set);
    none = λ e. absurd cc;
  }
  start_found members None some none b is = subst (IsStart (Phrase members) left place row) (sym is) none

-- before the first item from the end: the bit of the end alone
row_end : (tokens : List Token) (row : List ℕ) → ((place : ℕ) → place ≤ length tokens → has row place ≡ (place == length tokens)) → IsRow tokens [] row
row_end tokens row bits = record {
  set = λ place within h.
      let e : place ≡ length tokens = eqb-true place (length tokens) (sym (bits place within) ∙ h) in
      ([], subst (λ xs. Fits [] xs []) (sym (drop_all place tokens (omega arith))) tt);
  clear = λ place within h lengths fits.
      let ne : place ≢ length tokens = λ e. both_ways (has row place) h (bits place within ∙ eq-eqb place (length tokens) e) in
      over (drop place tokens) lengths (omega (arith, length-drop place tokens)) fits;
}
  where
    over : (xs : List Token) (lengths : List ℕ) → 0 < length xs → Fits [] xs lengths → ⊥
    over [] lengths some fits = omega arith
    over (x ∷ xs) lengths some fits = fits

or_false : (b : Bool) → (b || false) ≡ b
or_false true = refl
or_false false = refl

-- the row of no wants has the place at the end alone
pub row_first : (tokens : List Token) (fresh row : List ℕ) → ((place : ℕ) → has fresh place ≡ false) → ((place : ℕ) → has row place ≡ (place == length tokens || has fresh place)) → IsRow tokens [] row
row_first tokens fresh row none bits = row_end tokens row (λ place within. bits place ∙ ap (λ b. place == length tokens || b) (none place) ∙ or_false (place == length tokens))

module _ (tokens : List Token) (want : Want) (wants : List Want) (after row : List ℕ) (rest : IsRow tokens wants after) (starts : (place : ℕ) → place ≤ length tokens → IsStart want (drop place tokens) place after (has row place)) where
  none_from : (place n : ℕ) (later : List ℕ) (b : Bool) → place + n ≤ length tokens → has after (place + n) ≡ b → (has after (place + n) ≡ true → ⊥) → Fits wants (drop (place + n) tokens) later → ⊥
  none_from place n later true within e clear fits = clear e
  none_from place n later false within e clear fits = rest.clear (place + n) within e later fits

  clear_at : (place : ℕ) → place ≤ length tokens → has row place ≡ false → (lengths : List ℕ) → Fits (want ∷ wants) (drop place tokens) lengths → ⊥
  clear_at place within h [] fits = fits
  clear_at place within h (n ∷ later) fits =
      let size = length-drop place tokens in
      let le = fits.0 in
      none_from place n later (has after (place + n)) (omega arith) refl ((starts place within).none h n fits.0 fits.1) (subst (λ xs. Fits wants xs later) (drop-drop n place tokens) fits.2)

  -- the row of an item and what follows it
  pub row_more : IsRow tokens (want ∷ wants) row
  row_more = record {
    set = λ place within h.
        let s = (starts place within).some h in
        let size = length-drop place tokens in
        let le = s.1 in
        let t = rest.set (place + s.0) (omega arith) s.3 in
        (s.0 ∷ t.0, (s.1, s.2, subst (λ xs. Fits wants xs t.0) (sym (drop-drop s.0 place tokens)) t.1));
    clear = clear_at;
  }

-- what the first item takes, by the row of what follows it
module _ (tokens : List Token) (want : Want) (wants : List Want) (row : List ℕ) (is : IsRow tokens wants row) (left : List Token) (start : ℕ) (left_is : left ≡ drop start tokens) (within : start ≤ length tokens) where
  inside : (n : ℕ) → n ≤ length left → start + n ≤ length tokens
  inside n le = let e = ap length left_is ∙ length-drop start tokens in omega arith

  rest_is : (n : ℕ) → drop n left ≡ drop (start + n) tokens
  rest_is n = ap (drop n) left_is ∙ drop-drop n start tokens

  set_by : (n : ℕ) (later : List ℕ) (b : Bool) → n ≤ length left → has row (start + n) ≡ b → Fits wants (drop n left) later → has row (start + n) ≡ true
  set_by n later true le e fits = e
  set_by n later false le e fits = absurd (is.clear (start + n) (inside n le) e later (subst (λ xs. Fits wants xs later) (rest_is n) fits))

  next_by : (n : ℕ) → IsLeast want left start row n → IsNext want wants left n
  next_by n l = record {
    within = l.within;
    met = l.met;
    first = λ m later fits. l.least m fits.0 fits.1 (set_by m later (has row (start + m)) fits.0 refl fits.2);
    enough = λ m later fits. let t = is.set (start + n) (inside n l.within) l.set in (t.0, subst (λ xs. Fits wants xs t.0) (sym (rest_is n)) t.1);
  }

  no_next_by : IsStart want left start row false → (n : ℕ) (later : List ℕ) → Fits (want ∷ wants) left (n ∷ later) → ⊥
  no_next_by s n later fits = s.none refl n fits.0 fits.1 (set_by n later (has row (start + n)) fits.0 refl fits.2)

-- the rows behind an item and behind those after it
pub record RowsPopped (tokens : List Token) (wants : List Want) (row : List ℕ) (rows : List (List ℕ)) : Type 0 where
  pub one : IsRow tokens wants row
  pub rest : AreRows tokens wants rows

rows_popped : {tokens : List Token} {want : Want} {wants : List Want} {all : List (List ℕ)} → AreRows tokens (want ∷ wants) all → is_choosing want ≡ true → (row : List ℕ) (rows : List (List ℕ)) → all ≡ rows ++ row ∷ [] → RowsPopped tokens wants row rows
rows_popped (fixed want wants rows f r) c row now e = absurd (cc (f, c))
rows_popped {tokens} (choosing want wants row rows all f one r is) c now_row now e =
    let same = same_from_push rows now row now_row (sym is ∙ e) in
    record { one = subst (IsRow tokens wants) same.1 one; rest = subst (AreRows tokens wants) same.0 r }

-- where a want chooses its length, rows are there
pub rows_none : {tokens : List Token} {want : Want} {wants : List Want} {all : List (List ℕ)} → AreRows tokens (want ∷ wants) all → is_choosing want ≡ true → length all ≡ 0 → ⊥
rows_none (fixed want wants rows f r) c e = absurd (cc (f, c))
rows_none (choosing want wants row rows all f one r is) c e = absurd (omega (arith, ap length is, length_push rows row))

rows_fixed : {tokens : List Token} {want : Want} {wants : List Want} {all : List (List ℕ)} → AreRows tokens (want ∷ wants) all → is_choosing want ≡ false → AreRows tokens wants all
rows_fixed (fixed want wants rows f r) c = r
rows_fixed (choosing want wants row rows all f one r is) c = absurd (cc (f, c))

-- an item of several possible lengths is written with `$`
pub free_meta : (item : Item) → is_free item ≡ true → is_meta item ≡ true
free_meta Any h = refl
free_meta More h = refl
free_meta One h = refl
free_meta Empty h = refl
free_meta (InClass name) h = refl
free_meta (NotInClass name) h = refl
free_meta (Exact token) h = absurd cc
free_meta (Late name) h = refl

-- a metasymbol more at the end makes their count one more
pub count_last : (item : Item) (before : List Item) → is_meta item ≡ true → count_by is_meta (before ++ item ∷ []) ≡ count_by is_meta before + 1
count_last item before h = sum_by-append (λ x. cond (is_meta x) 1 0) before (item ∷ []) ∙ ap (λ n. count_by is_meta before + n) (count_meta item [] h)

-- an item more at the end makes the count of metasymbols no less
pub count_before : (item : Item) (before : List Item) → count_by is_meta before ≤ count_by is_meta (before ++ item ∷ [])
count_before item before = let e = sum_by-append (λ x. cond (is_meta x) 1 0) before (item ∷ []) in omega arith

-- an option of a length, said of what follows
module _ (want : Want) (wants : List Want) (left : List Token) where
  -- a want of one width that is met takes this width, whatever follows it
  pub fixed_some : (o : Option ℕ) → IfSome o (λ n. (after : List Want) → IsNext want after left n) → IfSome o (λ n. IsNext want wants left n)
  fixed_some None h = tt
  fixed_some (Some n) h = h wants

  -- a want of one width that isn't met fits nowhere, whatever follows it
  pub fixed_none : (o : Option ℕ) → IfNone o ((n : ℕ) → n ≤ length left → meets want (take n left) ≡ true → ⊥) → IfNone o ((n : ℕ) (later : List ℕ) → Fits (want ∷ wants) left (n ∷ later) → ⊥)
  fixed_none None h = λ n later fits. h n fits.0 fits.1
  fixed_none (Some n) h = tt

-- one bit of a row is set, or none
pub record IsSetIf (old new : List ℕ) (place : ℕ) (b : Bool) : Type 0 where
  pub here : has new place ≡ b
  pub there : (other : ℕ) → other ≢ place → has new other ≡ has old other

-- a row with one place more has that place set
pub set_bits : (old new : List ℕ) (place : ℕ) → ((other : ℕ) → has new other ≡ (other == place || has old other)) → IsSetIf old new place true
set_bits old new place bits = record {
  here = bits place ∙ ap (λ b. b || has old place) (eq-eqb place place refl);
  there = λ other ne. bits other ∙ ap (λ b. b || has old other) (ne_eqb other place ne);
}

-- a row that hasn't the place stays where none is set
pub keep_bits : (row : List ℕ) (place : ℕ) → has row place ≡ false → IsSetIf row row place false
keep_bits row place h = record { here = h; there = λ other ne. refl }

-- a step of the loop over the places
module _ (tokens : List Token) (want : Want) (after row now : List ℕ) (end place : ℕ) (is_place : place + 1 ≡ end) (within : place ≤ length tokens) (later : Bool) (known : IsLater after end (length tokens) later)
    (old : (p : ℕ) → end ≤ p → p ≤ length tokens → IsStart want (drop p tokens) p after (has row p)) (fresh : (p : ℕ) → p < end → has row p ≡ false) (b : Bool) (is : IsLater after (place + 1) (place + length (drop place tokens)) later → IsStart want (drop place tokens) place after b) (set : IsSetIf row now place b) where
  last_is : place + length (drop place tokens) ≡ length tokens
  last_is = let e = length-drop place tokens in omega arith

  start_here : IsStart want (drop place tokens) place after b
  start_here = is (subst (λ last. IsLater after (place + 1) last later) (sym last_is) (subst (λ from. IsLater after from (length tokens) later) (sym is_place) known))

  -- the row so far tells of each place from here on whether the want starts there
  pub starts_now : (p : ℕ) → place ≤ p → p ≤ length tokens → IsStart want (drop p tokens) p after (has now p)
  starts_now p from inside = elim (cases_eq p place) [
    | inl e ↦ subst (λ q. IsStart want (drop q tokens) q after (has now q)) (sym e) (subst (IsStart want (drop place tokens) place after) (sym set.here) start_here)
    | inr ne ↦ subst (IsStart want (drop p tokens) p after) (sym (set.there p ne)) (old p (omega arith) inside)
  ]

  -- the row so far has no place before this one
  pub fresh_now : (p : ℕ) → p < place → has now p ≡ false
  fresh_now p below = let ne : p ≢ place = omega arith in set.there p ne ∙ fresh p (omega arith)

  -- a place is in the row behind from here on if it is here or later
  pub later_now : (more : Bool) → more ≡ (later || has after place) → IsLater after place (length tokens) more
  later_now more e = record {
    some = λ t. elim (or_cases later (has after place) (sym e ∙ t)) [
      | inl l ↦ let s = known.some l in let a = s.1 in (s.0, omega arith, s.2, s.3)
      | inr h ↦ let le : place ≤ place = omega arith in (place, le, within, h)
    ];
    none = λ f q from to h. let both = or_none later (has after place) (sym e ∙ f) in elim (cases_eq q place) [
      | inl here ↦ both_ways (has after place) both.1 (ap (has after) (sym here) ∙ h)
      | inr ne ↦ known.none both.0 q (omega arith) to h
    ];
  }

-- the least length that is found
pub least_found : (want : Want) (left : List Token) (place : ℕ) (row : List ℕ) (n : ℕ) → n ≤ length left → meets want (take n left) ≡ true → has row (place + n) ≡ true
    → ((m : ℕ) → m < n → meets want (take m left) ≡ true → has row (place + m) ≡ true → ⊥) → IsLeast want left place row n
least_found want left place row n within met set none = record {
  within = within;
  met = met;
  set = set;
  least = λ m le here there. elim (cases_lt m n) [ inl lt ↦ absurd (none m lt here there) | inr ge ↦ ge ];
}

-- where no length meets a want and ends at a place of the row, nothing starts here
pub none_found : (want : Want) (left : List Token) (place : ℕ) (row : List ℕ) → ((m : ℕ) → m < length left + 1 → meets want (take m left) ≡ true → has row (place + m) ≡ true → ⊥) → IsStart want left place row false
none_found want left place row none = record {
  some = λ e. absurd cc;
  none = λ e n le met set. none n (omega arith) met set;
}

-- the next length, of an item with a row of its own and of one without
module _ (want : Want) (left : List Token) (place : ℕ) where
  abbrev pub Takes : Option ℕ → List (List ℕ) → List (List ℕ) → Type 0
  Takes o old new = IfSome o (λ n. (tokens : List Token) (rest : List Want) → left ≡ drop place tokens → place ≤ length tokens → AreRows tokens (want ∷ rest) old → IsNext want rest left n × AreRows tokens rest new)

  abbrev pub TakesNone : Option ℕ → List (List ℕ) → Type 0
  TakesNone o old = IfNone o ((tokens : List Token) (rest : List Want) → left ≡ drop place tokens → place ≤ length tokens → AreRows tokens (want ∷ rest) old → (n : ℕ) (later : List ℕ) → Fits (want ∷ rest) left (n ∷ later) → ⊥)

  -- a want of one width takes no row
  pub fixed_takes : (o : Option ℕ) (rows : List (List ℕ)) → is_choosing want ≡ false → IfSome o (λ n. (after : List Want) → IsNext want after left n) → Takes o rows rows
  fixed_takes None rows f h = tt
  fixed_takes (Some n) rows f h = λ tokens rest left_is within are. (h rest, rows_fixed are f)

  module _ (row : List ℕ) (old new : List (List ℕ)) (c : is_choosing want ≡ true) (popped : old ≡ new ++ row ∷ []) where
    -- the least length that ends at a place of the row is taken, and the row with it
    pub row_takes : (o : Option ℕ) → IfSome o (λ n. IsLeast want left place row n) → Takes o old new
    row_takes None h = tt
    row_takes (Some n) h = λ tokens rest left_is within are. let p = rows_popped are c row new popped in (next_by tokens want rest row p.one left place left_is within n h, p.rest)

    -- where nothing starts at a place of the row, nothing is taken
    pub row_takes_none : (o : Option ℕ) → IfNone o (IsStart want left place row false) → TakesNone o old
    row_takes_none None h = λ tokens rest left_is within are. let p = rows_popped are c row new popped in no_next_by tokens want rest row p.one left place left_is within h
    row_takes_none (Some n) h = tt

-- a list whose last is taken was the rest and that one
pub popped_is : {X : Type 0} (old new : List X) (o : Option X) (x : X) → old ≡ new ++ option_to_list o → o ≡ Some x → old ≡ new ++ x ∷ []
popped_is old new o x e is = e ∙ ap (λ p. new ++ option_to_list p) is

-- a list that isn't above zero in length is empty
pub popped_none : {X : Type 0} (old : List X) → (0 < length old → ⊥) → length old ≡ 0
popped_none old none = elim (cases_lt 0 (length old)) [ inl lt ↦ absurd (none lt) | inr le ↦ omega arith ]

-- no phrase of a class has more tokens than the longest
longest_least : (members : List Member) (least : ℕ) → least ≤ longest_from least members
longest_least [] least = omega arith
longest_least (member ∷ members) least = let a = le-max_left least (phrase_length member.tokens) in let b = longest_least members (max least (phrase_length member.tokens)) in omega (arith, a, b)

cut_length : (piece : List Token) (tokens : Option (List Token)) → is_cut_into piece tokens ≡ true → length piece ≡ phrase_length tokens
cut_length piece None h = absurd cc
cut_length piece (Some tokens) h = as_long same_token piece tokens h

phrase_within : (members : List Member) (least : ℕ) (piece : List Token) → is_phrase piece members ≡ true → length piece ≤ longest_from least members
phrase_within [] least piece h = absurd cc
phrase_within (member ∷ members) least piece h = elim (or_cases (is_cut_into piece member.tokens) (is_phrase piece members) h) [
  | inl e ↦ let a = le-max_right least (phrase_length member.tokens) in let b = longest_least members (max least (phrase_length member.tokens)) in let c = cut_length piece member.tokens e in omega (arith, a, b, c)
  | inr e ↦ phrase_within members (max least (phrase_length member.tokens)) piece e
]

-- the lists that are left where the items before the last are, and those of the last item and what
-- follows it
count_late : (item : Item) (before : List Item) → count_by is_late (before ++ item ∷ []) ≡ count_by is_late before + count_by is_late (item ∷ [])
count_late item before = sum_by-append (λ x. cond (is_late x) 1 0) before (item ∷ [])

-- the late lists before the last item are those of the items before it
pub lists_last : (item : Item) (before left : List Item) (lists now : ℕ) → left ≡ before ++ item ∷ [] → lists ≡ count_by is_late left → now ≡ lists - count_by is_late (item ∷ []) → (now ≡ count_by is_late before) × (lists ≡ now + count_by is_late (item ∷ []))
lists_last item before left lists now is old e = let c = count_late item before in let d = ap (count_by is_late) is in (omega arith, omega arith)

one_late : (item : Item) → count_by is_late (item ∷ []) ≡ cond (is_late item) 1 0
one_late item = sum_by-cons (λ x. cond (is_late x) 1 0) item [] ∙ add-zero (cond (is_late item) 1 0)

-- behind an item the late lists that follow its own are left
pub lists_next : (item : Item) (late : List (List Token)) (lists now : ℕ) → lists ≡ now + count_by is_late (item ∷ []) → lists_after item (drop now late) ≡ drop lists late
lists_next item late lists now is = by item (is ∙ ap (λ n. now + n) (one_late item))
  where
    stays : (x : Item) → lists ≡ now + 0 → lists_after x (drop now late) ≡ drop now late → lists_after x (drop now late) ≡ drop lists late
    stays x e same = same ∙ ap (λ (k : ℕ). drop k late) {x = now} {y = lists} (omega arith)

    by : (x : Item) → lists ≡ now + cond (is_late x) 1 0 → lists_after x (drop now late) ≡ drop lists late
    by Any e = stays Any e refl
    by More e = stays More e refl
    by One e = stays One e refl
    by Empty e = stays Empty e refl
    by (InClass name) e = stays (InClass name) e refl
    by (NotInClass name) e = stays (NotInClass name) e refl
    by (Exact token) e = stays (Exact token) e refl
    by (Late name) e = drop-drop 1 now late ∙ ap (λ (k : ℕ). drop k late) (sym e)

-- where no phrase up to the longest ends at a place of the row, nothing starts here
pub no_phrase_found : (members : List Member) (left : List Token) (place : ℕ) (row : List ℕ) (most : ℕ) → ((n : ℕ) → n ≤ longest_phrase members → n ≤ length left → n ≤ most)
    → ((m : ℕ) → m < most + 1 → meets (Phrase members) (take m left) ≡ true → has row (place + m) ≡ true → ⊥) → IsStart (Phrase members) left place row false
no_phrase_found members left place row most bound none = record {
  some = λ e. absurd cc;
  none = λ e n le met set.
      let short : n ≤ longest_phrase members = subst (λ k. k ≤ longest_phrase members) (length-take-le n left le) (phrase_within members 0 (take n left) (and_parts (not (is_none (take n left))) (is_phrase (take n left) members) met).1) in
      let few = bound n short le in
      none n (omega arith) met set;
}

-- what is found by the rows of the items that are left
module _ {size : ℕ} {all : List Want} (want : Want) (rest : List Want) {left : List Token} {start : ℕ} {old : List (List ℕ)} (stand : StandRows size all left start old) (is : all ≡ want ∷ rest) where
  rows : AreRows stand.tokens (want ∷ rest) old
  rows = subst (λ ws. AreRows stand.tokens ws old) is stand.are

  -- with what else stays so
  pub stand_some : {Stays : Type 0} → Stays → (o : Option ℕ) (new : List (List ℕ)) → Takes want left start o old new → IfSome o (λ n. IsNext want rest left n × (Stays × StandRows size rest (drop n left) (start + n) new))
  stand_some so None new h = tt
  stand_some so (Some n) new h =
      let both = h stand.tokens rest stand.left_are stand.within rows in
      let few = both.0.within in
      let place = stand.within in
      let size_is = ap length stand.left_are ∙ length-drop start stand.tokens in (
        both.0,
        (
          so,
          record {
            tokens = stand.tokens;
            are = both.1;
            left_are = ap (drop n) stand.left_are ∙ drop-drop n start stand.tokens;
            within = omega arith;
            short = stand.short;
          },
        ),
      )

  -- where nothing is taken, no lengths fit
  pub stand_none : (o : Option ℕ) → TakesNone want left start o old → IfNone o ((n : ℕ) (later : List ℕ) → Fits (want ∷ rest) left (n ∷ later) → ⊥)
  stand_none None h = h stand.tokens rest stand.left_are stand.within rows
  stand_none (Some n) h = tt
