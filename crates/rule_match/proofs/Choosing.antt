-- The least of what fits, item by item.
use Rattle.std.proofs.Common.{◌≡◌, ℕ, ◌+◌, ◌-◌, ◌<◌, ◌≤◌, ◌⊎◌, inl, inr, List, [], ◌∷◌, length, take, drop, Bool, true, false, Option, Some, None, IfSome, IfNone, zero, suc, refl, sym, ◌∙◌, ap, subst, arith}
use Rattle.std.specs.Prelude.{◌||◌, not}
use Rattle.std.specs.List.{list_any}
use Rattle.std.proofs.lemmas.Bool.{cases_lt}
use Rattle.std.proofs.Math.Nat.{eq-or-lt_of_le}
use Rattle.std.proofs.lemmas.List.{drop-drop, length-drop}
use Rattle.mail_base.specs.declared.token.Token.{Token}
use Rattle.rule_match.specs.Wants.{Want, Anything, Something, Single, Nothing, Phrase, NoPhrase, These, meets, is_none}
use Rattle.rule_match.specs.Choices.{Fits, IsAtMost, Chosen}
use Rattle.rule_match.specs.inner.Steps.{is_choosing, has_phrases, width, front_stands, IsFirst, IsFirstFront, IsNext}
use Rattle.rule_match.proofs.Fitting.{or_none, fits_fixed, fits_stands, stands_parts, takes_width}

-- two lists that are at most one another are the same
at_most_both : (ns ms : List ℕ) → IsAtMost ns ms → IsAtMost ms ns → ns ≡ ms
at_most_both [] [] h k = refl
at_most_both [] (m ∷ ms) h k = absurd k
at_most_both (n ∷ ns) [] h k = absurd h
at_most_both (n ∷ ns) (m ∷ ms) (inl lt) (inl gt) = absurd (omega arith)
at_most_both (n ∷ ns) (m ∷ ms) (inl lt) (inr both) = let e = both.0 in absurd (omega arith)
at_most_both (n ∷ ns) (m ∷ ms) (inr both) (inl gt) = let e = both.0 in absurd (omega arith)
at_most_both (n ∷ ns) (m ∷ ms) (inr both) (inr other) = let e = at_most_both ns ms both.1 other.1 in let d = both.0 in cc

-- of what fits one choice is taken
pub choice_once : (wants : List Want) (tokens : List Token) (ns ms : List ℕ) → Chosen wants tokens ns → Chosen wants tokens ms → ns ≡ ms
choice_once wants tokens ns ms h k = at_most_both ns ms (h.least ms k.fits) (k.least ns h.fits)

-- the least for what follows completes the least for all
pub choice_more : (want : Want) (wants : List Want) (tokens : List Token) (n : ℕ) (lengths : List ℕ) → IsNext want wants tokens n → Chosen wants (drop n tokens) lengths → Chosen (want ∷ wants) tokens (n ∷ lengths)
choice_more want wants tokens n lengths next rest = record { fits = (next.within, next.met, rest.fits); least = below }
  where
    below_at : (m : ℕ) (later : List ℕ) → Fits (want ∷ wants) tokens (m ∷ later) → (n ≡ m) ⊎ (n < m) → IsAtMost (n ∷ lengths) (m ∷ later)
    below_at m later h (inr lt) = inl lt
    below_at m later h (inl e) = inr (e, rest.least later (subst (λ k. Fits wants (drop k tokens) later) (sym e) h.2))

    below : (others : List ℕ) → Fits (want ∷ wants) tokens others → IsAtMost (n ∷ lengths) others
    below [] h = absurd h
    below (m ∷ later) h = below_at m later h (eq-or-lt_of_le (next.first m later h))

-- where nothing fits what follows, nothing fits all
pub choice_none : (want : Want) (wants : List Want) (tokens : List Token) (n : ℕ) → IsNext want wants tokens n → ((lengths : List ℕ) → Fits wants (drop n tokens) lengths → ⊥) → (lengths : List ℕ) → Fits (want ∷ wants) tokens lengths → ⊥
choice_none want wants tokens n next none [] h = h
choice_none want wants tokens n next none (m ∷ later) h = let rest = next.enough m later h in none rest.0 rest.1

-- a front that isn't empty has one token at least
pub some_is : (n : ℕ) (tokens : List Token) → not (is_none (take n tokens)) ≡ true → 1 ≤ n
some_is zero tokens h = absurd cc
some_is (suc n) tokens h = omega arith

-- a front of one token at least isn't empty
pub is_some : (n : ℕ) (tokens : List Token) → 1 ≤ n → 1 ≤ length tokens → not (is_none (take n tokens)) ≡ true
is_some zero tokens h k = absurd (omega arith)
is_some (suc n) [] h k = absurd (omega arith)
is_some (suc n) (token ∷ tokens) h k = refl

-- a `$*` or `$+` may take more
free_more : (want : Want) (d : ℕ) (tokens : List Token) (n : ℕ) → is_choosing want ≡ true → has_phrases want ≡ false → d + n ≤ length tokens → meets want (take n (drop d tokens)) ≡ true → meets want (take (d + n) tokens) ≡ true
free_more Anything d tokens n f p le h = refl
free_more Something d tokens n f p le h = let one = some_is n (drop d tokens) h in is_some (d + n) tokens (omega arith) (omega arith)
free_more Single d tokens n f p le h = absurd cc
free_more Nothing d tokens n f p le h = absurd cc
free_more (Phrase members) d tokens n f p le h = absurd cc
free_more (NoPhrase members) d tokens n f p le h = absurd cc
free_more (These piece) d tokens n f p le h = absurd cc

within_more : (tokens : List Token) (d n : ℕ) → d ≤ length tokens → n ≤ length (drop d tokens) → d + n ≤ length tokens
within_more tokens d n le h = let e = length-drop d tokens in omega arith

free_earlier : (want : Want) (wants : List Want) (tokens : List Token) (d : ℕ) (ns : List ℕ) → is_choosing want ≡ true → has_phrases want ≡ false → d ≤ length tokens → Fits (want ∷ wants) (drop d tokens) ns → (others : List ℕ) × Fits (want ∷ wants) tokens others
free_earlier want wants tokens d [] f p le h = absurd h
free_earlier want wants tokens d (n ∷ later) f p le h =
    let within = within_more tokens d n le h.0 in
    ((d + n) ∷ later, (within, free_more want d tokens n f p within h.1, subst (λ xs. Fits wants xs later) (drop-drop n d tokens) h.2))

fixed_earlier : (want : Want) (wants : List Want) (tokens : List Token) (d : ℕ) (ns : List ℕ) → is_choosing want ≡ false → front_stands (want ∷ wants) tokens ≡ true → d ≤ length tokens → Fits (want ∷ wants) (drop d tokens) ns
    → ((more : List Token) (later : List ℕ) → front_stands wants more ≡ true → d ≤ length more → Fits wants (drop d more) later → (others : List ℕ) × Fits wants more others) → (others : List ℕ) × Fits (want ∷ wants) tokens others
fixed_earlier want wants tokens d [] f stands le h rest = absurd h
fixed_earlier want wants tokens d (n ∷ later) f stands le h rest =
    let w : ℕ = width want in
    let p = fits_fixed want wants (drop d tokens) n later f h in
    let s = stands_parts want wants tokens f stands in
    let both = within_more tokens d w le p.within in
    let short : d ≤ length (drop w tokens) = omega (arith, length-drop w tokens) in
    let order : d + w ≡ w + d = omega arith in
    let swapped : drop w (drop d tokens) ≡ drop d (drop w tokens) = drop-drop w d tokens ∙ ap (λ (k : ℕ). drop k tokens) order ∙ sym (drop-drop d w tokens) in
    let after = rest (drop w tokens) later s.rest short (subst (λ xs. Fits wants xs later) swapped p.fits) in
    (w ∷ after.0, (s.within, s.met, after.1))

earlier_by : (want : Want) (wants : List Want) (tokens : List Token) (d : ℕ) (ns : List ℕ) (choosing : Bool) → is_choosing want ≡ choosing → list_any has_phrases (want ∷ wants) ≡ false → list_any is_choosing (want ∷ wants) ≡ true
    → front_stands (want ∷ wants) tokens ≡ true → d ≤ length tokens → Fits (want ∷ wants) (drop d tokens) ns
    → (list_any has_phrases wants ≡ false → list_any is_choosing wants ≡ true → (more : List Token) (later : List ℕ) → front_stands wants more ≡ true → d ≤ length more → Fits wants (drop d more) later → (others : List ℕ) × Fits wants more others) → (others : List ℕ) × Fits (want ∷ wants) tokens others
earlier_by want wants tokens d ns true f plain free stands le h rest = free_earlier want wants tokens d ns f (or_none (has_phrases want) (list_any has_phrases wants) plain).0 le h
earlier_by want wants tokens d ns false f plain free stands le h rest =
    fixed_earlier want wants tokens d ns f stands le h (rest (or_none (has_phrases want) (list_any has_phrases wants) plain).1 (sym (ap (λ b. b || list_any is_choosing wants) f) ∙ free))

-- what fits from a later place fits from an earlier one where its front stands, if a `$*` or `$+`
-- is in it and no phrase of a class
fits_earlier : (wants : List Want) (d : ℕ) → list_any has_phrases wants ≡ false → list_any is_choosing wants ≡ true → (tokens : List Token) (lengths : List ℕ) → front_stands wants tokens ≡ true → d ≤ length tokens → Fits wants (drop d tokens) lengths → (others : List ℕ) × Fits wants tokens others
fits_earlier [] d p f tokens lengths stands le h = absurd cc
fits_earlier (want ∷ wants) d p f tokens lengths stands le h = earlier_by want wants tokens d lengths (is_choosing want) refl p f stands le h (fits_earlier wants d)

-- the place from which what follows goes on, where that takes so many tokens
module _ (wants : List Want) (tokens : List Token) (least w : ℕ) (whole : (more : List Token) (lengths : List ℕ) → Fits wants more lengths → length more ≡ w) where
  place_is : (other : ℕ) (lengths : List ℕ) → other ≤ length tokens → Fits wants (drop other tokens) lengths → other ≡ length tokens - w
  place_is other lengths within h = let e = sym (length-drop other tokens) ∙ whole (drop other tokens) lengths h in omega arith

  -- items of one width fit first where they end with the tokens
  pub place_fixed : w + least ≤ length tokens → IsFirst wants tokens least (length tokens - w)
  place_fixed room = record {
    from = omega arith;
    within = omega arith;
    first = λ other lengths from within h. let e = place_is other lengths within h in omega arith;
    enough = λ other lengths from within h. (lengths, subst (λ (k : ℕ). Fits wants (drop k tokens) lengths) (place_is other lengths within h) h);
  }

-- no place, where what follows takes so many tokens at least
module _ (wants : List Want) (tokens : List Token) (least w : ℕ) (front : (more : List Token) (lengths : List ℕ) → Fits wants more lengths → w ≤ length more) where
  -- items that are wider than the tokens left fit nowhere
  pub no_place_wide : length tokens < w + least → (other : ℕ) (lengths : List ℕ) → least ≤ other → other ≤ length tokens → Fits wants (drop other tokens) lengths → ⊥
  no_place_wide short other lengths from within h = let e = length-drop other tokens in let le = front (drop other tokens) lengths h in omega arith

  -- items whose front stands nowhere up to the last place fit nowhere
  pub no_place : (last : ℕ) → last + w ≡ length tokens → ((k : ℕ) → least ≤ k → k < last + 1 → front_stands wants (drop k tokens) ≡ false) → (other : ℕ) (lengths : List ℕ) → least ≤ other → other ≤ length tokens → Fits wants (drop other tokens) lengths → ⊥
  no_place last is none other lengths from within h =
      let size = length-drop other tokens in
      let le = front (drop other tokens) lengths h in
      let e = none other from (omega arith) in
      let d = fits_stands wants (drop other tokens) lengths h in
      absurd (cc (e, d))

-- the same where a `$*` or `$+` follows
module _ (wants : List Want) (tokens : List Token) (least : ℕ) where
  module _ (place : ℕ) (none : (k : ℕ) → least ≤ k → k < place → front_stands wants (drop k tokens) ≡ false) where
    not_before : (other : ℕ) → least ≤ other → front_stands wants (drop other tokens) ≡ true → (other < place) ⊎ (place ≤ other) → place ≤ other
    not_before other from h (inl lt) = let e = none other from lt in absurd (cc (e, h))
    not_before other from h (inr le) = le

    first_at : (other : ℕ) (lengths : List ℕ) → least ≤ other → Fits wants (drop other tokens) lengths → place ≤ other
    first_at other lengths from h = not_before other from (fits_stands wants (drop other tokens) lengths h) (cases_lt other place)

    -- items with a free one fit first where their front stands first
    pub place_free : list_any has_phrases wants ≡ false → list_any is_choosing wants ≡ true → least ≤ place → place ≤ length tokens → front_stands wants (drop place tokens) ≡ true → IsFirst wants tokens least place
    place_free plain free from within stands = record {
      from = from;
      within = within;
      first = λ other lengths later inside h. first_at other lengths later h;
      enough = λ other lengths later inside h.
          let le = first_at other lengths later h in
          let short : other - place ≤ length tokens - place = omega arith in
          let apart : other ≡ place + (other - place) = omega arith in
          let joined : drop other tokens ≡ drop (other - place) (drop place tokens) = ap (λ (k : ℕ). drop k tokens) apart ∙ sym (drop-drop (other - place) place tokens) in
          fits_earlier wants (other - place) plain free (drop place tokens) lengths stands (subst (λ k. other - place ≤ k) (sym (length-drop place tokens)) short) (subst (λ xs. Fits wants xs lengths) joined h);
    }

-- the same of what a search for a front tells
module _ (wants : List Want) (tokens : List Token) (least last : ℕ) where
  -- the first place where the front stands is the first where all fits
  pub found_free : last ≤ length tokens → list_any has_phrases wants ≡ false → list_any is_choosing wants ≡ true → (o : Option ℕ) → IfSome o (λ place. IsFirstFront wants tokens least last place) → IfSome o (λ place. IsFirst wants tokens least place)
  found_free inside plain free None h = tt
  found_free inside plain free (Some place) h = let within = h.within in place_free wants tokens least place h.first plain free h.from (omega arith) h.stands

  -- where the front stands nowhere up to the last place, nothing fits
  pub missed_free : (w : ℕ) → ((more : List Token) (lengths : List ℕ) → Fits wants more lengths → w ≤ length more) → last + w ≡ length tokens → (o : Option ℕ) → IfNone o ((place : ℕ) → least ≤ place → place ≤ last → front_stands wants (drop place tokens) ≡ false)
      → IfNone o ((other : ℕ) (lengths : List ℕ) → least ≤ other → other ≤ length tokens → Fits wants (drop other tokens) lengths → ⊥)
  missed_free w front is None none = no_place wants tokens least w front last is (λ k from below. none k from (omega arith))
  missed_free w front is (Some place) none = tt

-- what the first item takes
module _ (wants : List Want) (tokens : List Token) where
  next_more : (n : ℕ) → IsFirst wants tokens 1 n → IsNext Something wants tokens n
  next_more n i = record {
    within = i.within;
    met = let a = i.from in let b = i.within in is_some n tokens a (omega arith);
    first = λ m lengths h. i.first m lengths (some_is m tokens h.1) h.0 h.2;
    enough = λ m lengths h. i.enough m lengths (some_is m tokens h.1) h.0 h.2;
  }

-- an item whose matches have one length
module _ (want : Want) (tokens : List Token) (fixed : is_choosing want ≡ false) (w : ℕ) (is : w ≡ width want) where
  -- a want of one width that is met takes this width
  pub next_fixed : w ≤ length tokens → meets want (take w tokens) ≡ true → (wants : List Want) → IsNext want wants tokens w
  next_fixed some met wants = record {
    within = some;
    met = met;
    first = λ m lengths h. let p = fits_fixed want wants tokens m lengths fixed h in omega (arith, p.one);
    enough = λ m lengths h. let p = fits_fixed want wants tokens m lengths fixed h in (lengths, subst (λ k. Fits wants (drop k tokens) lengths) (sym is) p.fits);
  }

  -- a want of one width that isn't met takes no tokens
  pub no_next_fixed : meets want (take w tokens) ≡ false → (n : ℕ) → n ≤ length tokens → meets want (take n tokens) ≡ true → ⊥
  no_next_fixed differs n le h =
      let e : meets want (take w tokens) ≡ true = ap (λ k. meets want (take k tokens)) (is ∙ sym (takes_width want tokens n fixed le h)) ∙ h in
      absurd (cc (differs, e))

  -- a want that is wider than the tokens left takes none
  pub no_room_fixed : length tokens < w → (n : ℕ) → n ≤ length tokens → meets want (take n tokens) ≡ true → ⊥
  no_room_fixed short n le h = let e = takes_width want tokens n fixed le h in omega arith

-- the same of what was found, for a `$*` and a `$+`
module _ (wants : List Want) (tokens : List Token) where
  -- the first place from 1 on where the rest fits is what $+ takes
  pub found_more : (o : Option ℕ) → IfSome o (λ n. IsFirst wants tokens 1 n) → IfSome o (λ n. IsNext Something wants tokens n)
  found_more None h = tt
  found_more (Some n) h = next_more wants tokens n h

  -- where the rest fits nowhere from 1 on, $+ takes nothing
  pub missed_more : (o : Option ℕ) → IfNone o ((n : ℕ) (later : List ℕ) → 1 ≤ n → n ≤ length tokens → Fits wants (drop n tokens) later → ⊥) → IfNone o ((n : ℕ) (later : List ℕ) → Fits (Something ∷ wants) tokens (n ∷ later) → ⊥)
  missed_more None none = λ n later h. none n later (some_is n tokens h.1) h.0 h.2
  missed_more (Some n) none = tt
