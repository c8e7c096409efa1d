-- What fits, item by item.
use Rattle.std.proofs.Common.{◌≡◌, ℕ, ◌+◌, ◌≤◌, List, [], ◌∷◌, length, take, drop, Bool, true, false, refl, sym, ◌∙◌, ap, subst, arith}
use Rattle.std.specs.Prelude.{◌&&◌, ◌||◌, nat_le}
use Rattle.std.specs.List.{list_any}
use Rattle.std.specs.Cmp.Lexicographic.{as_long}
use Rattle.std.proofs.lemmas.Bool.{and_parts, and_from, false_from_ne_true, le-leb, leb-true}
use Rattle.std.proofs.lemmas.List.{length-take-le, length-drop}
use Rattle.mail_base.specs.declared.token.Token.{Token}
use Rattle.mail_base.specs.declared.classes.Classes.{Classes}
use Rattle.mail_base.specs.declared.rule.Item.{Item}
use Rattle.mail_base.specs.declared.rule.Item.TheVariants.{Any, More, One, Empty, InClass, NotInClass, Exact, Late}
use Rattle.mail_base.specs.Tokens.{same_token}
use Rattle.rule_match.specs.Wants.{Want, Anything, Something, Single, Nothing, Phrase, NoPhrase, These, want, wants, lists_after, meets, is_none, is_single}
use Rattle.rule_match.specs.Choices.{Fits}
use Rattle.mail_base.specs.Metas.{is_class}
use Rattle.rule_match.specs.inner.Steps.{is_choosing, has_phrases, width, front_stands, is_free, width_of, front_width}

-- an `or` of two is false where both are
pub or_none : (x y : Bool) → (x || y) ≡ false → (x ≡ false) × (y ≡ false)
or_none true y h = absurd cc
or_none false y h = (refl, h)

single_one : (piece : List Token) → is_single piece ≡ true → length piece ≡ 1
single_one [] h = absurd cc
single_one (x ∷ []) h = refl
single_one (x ∷ y ∷ more) h = absurd cc

none_zero : (piece : List Token) → is_none piece ≡ true → length piece ≡ 0
none_zero [] h = refl
none_zero (x ∷ xs) h = absurd cc

fixed_length : (want : Want) (piece : List Token) → is_choosing want ≡ false → meets want piece ≡ true → length piece ≡ width want
fixed_length Anything piece f h = absurd cc
fixed_length Something piece f h = absurd cc
fixed_length Single piece f h = single_one piece h
fixed_length Nothing piece f h = none_zero piece h
fixed_length (Phrase members) piece f h = absurd cc
fixed_length (NoPhrase members) piece f h = single_one piece (and_parts (is_single piece) _ h).0
fixed_length (These tokens) piece f h = sym (as_long same_token tokens piece h)

-- what has matches of one length takes so many tokens
pub takes_width : (want : Want) (tokens : List Token) (n : ℕ) → is_choosing want ≡ false → n ≤ length tokens → meets want (take n tokens) ≡ true → n ≡ width want
takes_width want tokens n f le h = sym (length-take-le n tokens le) ∙ fixed_length want (take n tokens) f h

-- whether the front of the items stands at the front of the tokens, by the kind of the first item
stands_free : (want : Want) (wants : List Want) (tokens : List Token) → is_choosing want ≡ true → front_stands (want ∷ wants) tokens ≡ true
stands_free want wants tokens f = rw f refl

stands_fixed : (want : Want) (wants : List Want) (tokens : List Token) → is_choosing want ≡ false
    → front_stands (want ∷ wants) tokens ≡ (nat_le (width want) (length tokens) && meets want (take (width want) tokens) && front_stands wants (drop (width want) tokens))
stands_fixed want wants tokens f = rw f refl

-- the parts of a front that stands
pub record StandsFixed (want : Want) (wants : List Want) (tokens : List Token) : Type 0 where
  pub within : width want ≤ length tokens
  pub met : meets want (take (width want) tokens) ≡ true
  pub rest : front_stands wants (drop (width want) tokens) ≡ true

-- where a front stands that begins with a want of fixed width, this want is met there
pub stands_parts : (want : Want) (wants : List Want) (tokens : List Token) → is_choosing want ≡ false → front_stands (want ∷ wants) tokens ≡ true → StandsFixed want wants tokens
stands_parts want wants tokens f h =
    let all = and_parts (nat_le (width want) (length tokens) && meets want (take (width want) tokens)) (front_stands wants (drop (width want) tokens)) (sym (stands_fixed want wants tokens f) ∙ h) in
    let both = and_parts (nat_le (width want) (length tokens)) (meets want (take (width want) tokens)) all.0 in
    record { within = leb-true (width want) (length tokens) both.0; met = both.1; rest = all.1 }

stands_whole : (want : Want) (wants : List Want) (tokens : List Token) → is_choosing want ≡ false → StandsFixed want wants tokens → front_stands (want ∷ wants) tokens ≡ true
stands_whole want wants tokens f s =
    stands_fixed want wants tokens f ∙ and_from _ (front_stands wants (drop (width want) tokens)) (and_from (nat_le (width want) (length tokens)) (meets want (take (width want) tokens)) (le-leb (width want) (length tokens) s.within) s.met) s.rest

-- behind a want of one width that takes so many tokens, the rest of the front decides
pub stands_behind : (want : Want) (wants : List Want) (tokens : List Token) (n : ℕ) → is_choosing want ≡ false → n ≤ length tokens → meets want (take n tokens) ≡ true → front_stands (want ∷ wants) tokens ≡ front_stands wants (drop n tokens)
stands_behind want wants tokens n f within met =
    let e = takes_width want tokens n f within met in
    let both : (nat_le (width want) (length tokens) && meets want (take (width want) tokens)) ≡ true =
    and_from (nat_le (width want) (length tokens)) (meets want (take (width want) tokens)) (le-leb (width want) (length tokens) (subst (λ k. k ≤ length tokens) e within)) (subst (λ k. meets want (take k tokens) ≡ true) e met) in
    stands_fixed want wants tokens f ∙ ap (λ b. b && front_stands wants (drop (width want) tokens)) both ∙ ap (λ k. front_stands wants (drop k tokens)) (sym e)

-- where a want of one width takes no tokens, no front that it begins stands
pub stands_stuck : (want : Want) (wants : List Want) (tokens : List Token) → is_choosing want ≡ false → ((n : ℕ) → n ≤ length tokens → meets want (take n tokens) ≡ true → ⊥) → front_stands (want ∷ wants) tokens ≡ false
stands_stuck want wants tokens f none = false_from_ne_true (front_stands (want ∷ wants) tokens) (λ h. let s = stands_parts want wants tokens f h in none (width want) s.within s.met)

-- what fits an item whose matches have one length, and those after it
pub record FitsFirst (want : Want) (wants : List Want) (tokens : List Token) (n : ℕ) (later : List ℕ) : Type 0 where
  pub one : n ≡ width want
  pub within : width want ≤ length tokens
  pub met : meets want (take (width want) tokens) ≡ true
  pub fits : Fits wants (drop (width want) tokens) later

-- a want of fixed width that fits is met by as many tokens as it is wide
pub fits_fixed : (want : Want) (wants : List Want) (tokens : List Token) (n : ℕ) (later : List ℕ) → is_choosing want ≡ false → Fits (want ∷ wants) tokens (n ∷ later) → FitsFirst want wants tokens n later
fits_fixed want wants tokens n later f h =
    let e = takes_width want tokens n f h.0 h.1 in
    record {
      one = e;
      within = subst (λ k. k ≤ length tokens) e h.0;
      met = subst (λ k. meets want (take k tokens) ≡ true) e h.1;
      fits = subst (λ k. Fits wants (drop k tokens) later) e h.2;
    }

stands_by : (want : Want) (wants : List Want) (tokens : List Token) (n : ℕ) (later : List ℕ) (choosing : Bool) → is_choosing want ≡ choosing
    → Fits (want ∷ wants) tokens (n ∷ later) → ((more : List Token) → Fits wants more later → front_stands wants more ≡ true) → front_stands (want ∷ wants) tokens ≡ true
stands_by want wants tokens n later true f h rest = stands_free want wants tokens f
stands_by want wants tokens n later false f h rest =
    let p = fits_fixed want wants tokens n later f h in
    stands_whole want wants tokens f (record { within = p.within; met = p.met; rest = rest (drop (width want) tokens) p.fits })

-- where items fit, their front stands
pub fits_stands : (wants : List Want) (tokens : List Token) (lengths : List ℕ) → Fits wants tokens lengths → front_stands wants tokens ≡ true
fits_stands [] tokens lengths h = refl
fits_stands (want ∷ wants) tokens [] h = absurd h
fits_stands (want ∷ wants) tokens (n ∷ later) h = stands_by want wants tokens n later (is_choosing want) refl h (λ more fits. fits_stands wants more later fits)

-- ---- what is known of items, whatever the classes are

-- a want chooses its length if its item is a free one
pub choosing_is : (classes : Classes) (late : List (List Token)) (item : Item) → is_choosing (want classes late item) ≡ is_free item
choosing_is classes late Any = refl
choosing_is classes late More = refl
choosing_is classes late One = refl
choosing_is classes late Empty = refl
choosing_is classes late (InClass name) = refl
choosing_is classes late (NotInClass name) = refl
choosing_is classes late (Exact token) = refl
choosing_is classes late (Late name) = refl

class_is : (classes : Classes) (late : List (List Token)) (item : Item) → has_phrases (want classes late item) ≡ is_class item
class_is classes late Any = refl
class_is classes late More = refl
class_is classes late One = refl
class_is classes late Empty = refl
class_is classes late (InClass name) = refl
class_is classes late (NotInClass name) = refl
class_is classes late (Exact token) = refl
class_is classes late (Late name) = refl

-- a want is as wide as its item
pub width_is : (classes : Classes) (late : List (List Token)) (item : Item) → width (want classes late item) ≡ width_of late item
width_is classes late Any = refl
width_is classes late More = refl
width_is classes late One = refl
width_is classes late Empty = refl
width_is classes late (InClass name) = refl
width_is classes late (NotInClass name) = refl
width_is classes late (Exact token) = refl
width_is classes late (Late name) = refl

-- some want chooses its length if some item is free
pub choosing_any : (classes : Classes) (late : List (List Token)) (items : List Item) → list_any is_choosing (wants classes late items) ≡ list_any is_free items
choosing_any classes late [] = refl
choosing_any classes late (item ∷ items) = ap (λ b. b || list_any is_choosing (wants classes (lists_after item late) items)) (choosing_is classes late item) ∙ ap (λ b. is_free item || b) (choosing_any classes (lists_after item late) items)

-- some want has phrases if some item is a class
pub class_any : (classes : Classes) (late : List (List Token)) (items : List Item) → list_any has_phrases (wants classes late items) ≡ list_any is_class items
class_any classes late [] = refl
class_any classes late (item ∷ items) = ap (λ b. b || list_any has_phrases (wants classes (lists_after item late) items)) (class_is classes late item) ∙ ap (λ b. is_class item || b) (class_any classes (lists_after item late) items)

-- how wide a front is, by the kind of the first item
front_free : (late : List (List Token)) (item : Item) (items : List Item) → is_free item ≡ true → front_width late (item ∷ items) ≡ 0
front_free late item items f = rw f refl

front_fixed : (late : List (List Token)) (item : Item) (items : List Item) → is_free item ≡ false → front_width late (item ∷ items) ≡ width_of late item + front_width (lists_after item late) items
front_fixed late item items f = rw f refl

module _ (classes : Classes) (late : List (List Token)) (item : Item) (items : List Item) (tokens : List Token) (n : ℕ) (later : List ℕ) (h : Fits (wants classes late (item ∷ items)) tokens (n ∷ later)) (f : is_free item ≡ false) where
  first : FitsFirst (want classes late item) (wants classes (lists_after item late) items) tokens n later
  first = fits_fixed (want classes late item) (wants classes (lists_after item late) items) tokens n later (choosing_is classes late item ∙ f) h

  rest_size : length (drop (width (want classes late item)) tokens) + width_of late item ≡ length tokens
  rest_size = let s = length-drop (width (want classes late item)) tokens in let w = width_is classes late item in let le = first.within in omega arith

front_by : (classes : Classes) (late : List (List Token)) (item : Item) (items : List Item) (tokens : List Token) (n : ℕ) (later : List ℕ) (free : Bool) → is_free item ≡ free → Fits (wants classes late (item ∷ items)) tokens (n ∷ later)
    → ((more : List Token) → Fits (wants classes (lists_after item late) items) more later → front_width (lists_after item late) items ≤ length more) → front_width late (item ∷ items) ≤ length tokens
front_by classes late item items tokens n later true f h rest = let e = front_free late item items f in omega arith
front_by classes late item items tokens n later false f h rest =
    let p = first classes late item items tokens n later h f in
    let e = front_fixed late item items f in
    let r = rest (drop (width (want classes late item)) tokens) p.fits in
    let s = rest_size classes late item items tokens n later h f in
    omega arith

-- items that fit take as many tokens at least as their front is wide
pub fits_front : (classes : Classes) (late : List (List Token)) (items : List Item) (tokens : List Token) (lengths : List ℕ) → Fits (wants classes late items) tokens lengths → front_width late items ≤ length tokens
fits_front classes late [] tokens lengths h = omega arith
fits_front classes late (item ∷ items) tokens [] h = absurd h
fits_front classes late (item ∷ items) tokens (n ∷ later) h = front_by classes late item items tokens n later (is_free item) refl h (λ more fits. fits_front classes (lists_after item late) items more later fits)

-- and just as many where each has one length
pub fits_whole : (classes : Classes) (late : List (List Token)) (items : List Item) (tokens : List Token) (lengths : List ℕ) → list_any is_free items ≡ false → Fits (wants classes late items) tokens lengths → length tokens ≡ front_width late items
fits_whole classes late [] [] lengths f h = refl
fits_whole classes late [] (token ∷ tokens) [] f h = absurd h
fits_whole classes late [] (token ∷ tokens) (n ∷ lengths) f h = absurd h
fits_whole classes late (item ∷ items) tokens [] f h = absurd h
fits_whole classes late (item ∷ items) tokens (n ∷ later) f h =
    let both = or_none (is_free item) (list_any is_free items) f in
    let p = first classes late item items tokens n later h both.0 in
    let e = front_fixed late item items both.0 in
    let r = fits_whole classes (lists_after item late) items (drop (width (want classes late item)) tokens) later both.1 p.fits in
    let s = rest_size classes late item items tokens n later h both.0 in
    omega arith

-- an item other than $*, $+ and $= has a fixed width
pub other_fixed : (item : Item) → (item ≡ Any → ⊥) → (item ≡ More → ⊥) → ((name : List ℕ) → item ≡ InClass name → ⊥) → is_free item ≡ false
other_fixed Any a b c = absurd (a refl)
other_fixed More a b c = absurd (b refl)
other_fixed One a b c = refl
other_fixed Empty a b c = refl
other_fixed (InClass name) a b c = absurd (c name refl)
other_fixed (NotInClass name) a b c = refl
other_fixed (Exact token) a b c = refl
other_fixed (Late name) a b c = refl
