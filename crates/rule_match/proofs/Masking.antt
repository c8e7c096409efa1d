-- A left side that wants a place which tokens lack has no match with them.
use Rattle.std.proofs.Common.{◌≡◌, ℕ, zero, suc, ◌^◌, List, [], ◌∷◌, ◌++◌, take, drop, Bool, true, false, Option, Some, None, cond, max, min, refl, sym, ap, subst, ◌∙◌, arith, inl, inr, eq-eqb, ne_eqb}
use Rattle.std.specs.Prelude.{◌==◌, ◌||◌, bit_and}
use Rattle.std.specs.Int.{bit_at}
use Rattle.std.specs.List.{list_any}
use Rattle.std.proofs.lemmas.Bool.{and_parts, cases_eq, or_right, true≢false}
use Rattle.std.proofs.lemmas.Nat.Bits.{bit_at_and, bit_at_or, bit_at-pow_other, bit_at-pow_same, bit_at-zero, same_from_bits}
use Rattle.mail_base.proofs.TokenPlaces.{same_place}
use Rattle.mail_base.specs.Masks.{covers, edge, mask_of, pair_place, pair_places, place_of, places_from, places_of, wanted, wanted_from, wanted_mask, with_place, with_places}
use Rattle.mail_base.specs.Metas.{is_late}
use Rattle.mail_base.specs.Tokens.{same_token, same_tokens}
use Rattle.mail_base.specs.declared.classes.Classes.{Classes}
use Rattle.mail_base.specs.declared.rule.Item.{Item}
use Rattle.mail_base.specs.declared.rule.Item.TheVariants.{Any, More, One, Empty, InClass, NotInClass, Exact, Late}
use Rattle.mail_base.specs.declared.token.Token.{Token}
use Rattle.rule_match.specs.Choices.{Fits}
use Rattle.rule_match.specs.Wants.{Want, is_none, want, wants}

-- ---- places among places

-- whether a place is among these
abbrev pub has : ℕ → List ℕ → Bool
has place places = list_any (λ other. place == other) places

or_more : (b one other : Bool) → (one ≡ true → other ≡ true) → (b || one) ≡ true → (b || other) ≡ true
or_more true one other f h = refl
or_more false one other f h = f h

-- what is known of the place before
abbrev pub IsBefore : Option ℕ → ℕ → Type 0
IsBefore None place = Unit {0}
IsBefore (Some before) place = before ≡ place

-- what the tokens have behind so many of them whatever stands before, they have
later : (m n : ℕ) (tokens : List Token) → ((before : ℕ) → has m (places_from before (drop n tokens)) ≡ true) → (before : ℕ) → has m (places_from before tokens) ≡ true
later m zero tokens h before = h before
later m (suc n) [] h before = h before
later m (suc n) (token ∷ tokens) h before =
    let there = later m n tokens h (place_of token) in
    let place = place_of token in
    or_right (m == pair_place before place) (has m (place ∷ places_from place tokens)) (or_right (m == place) (has m (places_from place tokens)) there)

end_step : (known : Option ℕ) (before m : ℕ) → IsBefore known before → has m (pair_places known edge) ≡ true → has m (pair_place before edge ∷ []) ≡ true
end_step None before m is h = absurd (true≢false (sym h))
end_step (Some other) before m is h = subst (λ (b : ℕ). has m (pair_place b edge ∷ []) ≡ true) is h

exact_step : (known : Option ℕ) (before m place : ℕ) (wanted there : List ℕ) → IsBefore known before → (has m wanted ≡ true → has m there ≡ true) → has m (pair_places known place ++ place ∷ wanted) ≡ true → has m (pair_place before place ∷ place ∷ there) ≡ true
exact_step None before m place wanted there is f h =
    or_right (m == pair_place before place) (has m (place ∷ there)) (or_more (m == place) (has m wanted) (has m there) f h)
exact_step (Some other) before m place wanted there is f h =
    or_more (m == pair_place before place) (has m (place ∷ wanted)) (has m (place ∷ there)) (or_more (m == place) (has m wanted) (has m there) f)
    (subst (λ (b : ℕ). has m (pair_place b place ∷ place ∷ wanted) ≡ true) is h)

-- ---- what a match has

-- where no token is taken, all are left
none_taken : (n : ℕ) (tokens : List Token) → is_none (take n tokens) ≡ true → drop n tokens ≡ tokens
none_taken zero tokens h = refl
none_taken (suc n) [] h = refl
none_taken (suc n) (token ∷ tokens) h = absurd (true≢false (sym h))

none_same : (n : ℕ) (tokens : List Token) → same_tokens [] (take n tokens) ≡ true → drop n tokens ≡ tokens
none_same zero tokens h = refl
none_same (suc n) [] h = refl
none_same (suc n) (token ∷ tokens) h = absurd (true≢false (sym h))

module _ (classes : Classes) (late : List (List Token)) where
  -- the items want no places but those that the tokens have, if they match them
  abbrev Wanted : List Item → List Token → List ℕ → Type 0
  Wanted items tokens lengths = Fits (wants classes late items) tokens lengths → (known : Option ℕ) (before : ℕ) → IsBefore known before → (m : ℕ) → has m (wanted_from known items) ≡ true → has m (places_from before tokens) ≡ true

  -- of an item that may take any tokens nothing is wanted
  behind : (one : Want) (items : List Item) (tokens : List Token) (lengths : List ℕ) → ((left : List Token) (rest : List ℕ) → Wanted items left rest) → Fits (one ∷ wants classes late items) tokens lengths → (before m : ℕ) → has m (wanted_from None items) ≡ true → has m (places_from before tokens) ≡ true
  behind one items tokens [] all fits before m h = absurd fits
  behind one items tokens (n ∷ lengths) all fits before m h = later m n tokens (λ b. all (drop n tokens) lengths fits.2 None b tt m h) before

  exact_there : (token : Token) (items : List Item) (tokens : List Token) (lengths : List ℕ) → ((left : List Token) (rest : List ℕ) → Wanted items left rest) → Wanted (Exact token ∷ items) tokens lengths
  exact_there token items tokens [] all fits known before is m h = absurd fits
  exact_there token items tokens (zero ∷ lengths) all fits known before is m h = absurd (true≢false (sym fits.1))
  exact_there token items [] (suc n ∷ lengths) all fits known before is m h = absurd (true≢false (sym fits.1))
  exact_there token items (first ∷ tokens) (suc n ∷ lengths) all fits known before is m h =
      let met = and_parts (same_token token first) (same_tokens [] (take n tokens)) fits.1 in
      let place : ℕ = place_of token in
      let fit = subst (λ (left : List Token). Fits (wants classes late items) left lengths) (none_same n tokens met.1) fits.2 in
      let there : has m (pair_place before place ∷ place ∷ places_from place tokens) ≡ true =
      exact_step known before m place (wanted_from (Some place) items) (places_from place tokens) is (all tokens lengths fit (Some place) place refl m) h in
      subst (λ (q : ℕ). has m (pair_place before q ∷ q ∷ places_from q tokens) ≡ true) (same_place token first met.0) there

  empty_there : (items : List Item) (tokens : List Token) (lengths : List ℕ) → ((left : List Token) (rest : List ℕ) → Wanted items left rest) → Wanted (Empty ∷ items) tokens lengths
  empty_there items tokens [] all fits known before is m h = absurd fits
  empty_there items tokens (n ∷ lengths) all fits known before is m h =
      let fit = subst (λ (left : List Token). Fits (wants classes late items) left lengths) (none_taken n tokens fits.1) fits.2 in
      all tokens lengths fit known before is m h

  nothing_there : (tokens : List Token) (lengths : List ℕ) → Wanted [] tokens lengths
  nothing_there [] [] fits known before is m h = end_step known before m is h
  nothing_there [] (n ∷ lengths) fits known before is m h = absurd fits
  nothing_there (token ∷ tokens) lengths fits known before is m h = absurd fits

  wanted_there : (items : List Item) → list_any is_late items ≡ false → (tokens : List Token) (lengths : List ℕ) → Wanted items tokens lengths
  wanted_there [] quiet tokens lengths = nothing_there tokens lengths
  wanted_there (Exact token ∷ items) quiet tokens lengths = exact_there token items tokens lengths (wanted_there items quiet)
  wanted_there (Empty ∷ items) quiet tokens lengths = empty_there items tokens lengths (wanted_there items quiet)
  wanted_there (Any ∷ items) quiet tokens lengths = λ fits known before is m h. behind (want classes late Any) items tokens lengths (wanted_there items quiet) fits before m h
  wanted_there (More ∷ items) quiet tokens lengths = λ fits known before is m h. behind (want classes late More) items tokens lengths (wanted_there items quiet) fits before m h
  wanted_there (One ∷ items) quiet tokens lengths = λ fits known before is m h. behind (want classes late One) items tokens lengths (wanted_there items quiet) fits before m h
  wanted_there (InClass name ∷ items) quiet tokens lengths = λ fits known before is m h. behind (want classes late (InClass name)) items tokens lengths (wanted_there items quiet) fits before m h
  wanted_there (NotInClass name ∷ items) quiet tokens lengths = λ fits known before is m h. behind (want classes late (NotInClass name)) items tokens lengths (wanted_there items quiet) fits before m h
  wanted_there (Late name ∷ items) quiet tokens lengths = absurd (true≢false quiet)

-- ---- masks

abbrev pub one_if : Bool → ℕ
one_if b = cond b 1 0

one_either : (one other : Bool) → one_if (one || other) ≡ max (one_if one) (one_if other)
one_either true true = refl
one_either true false = refl
one_either false true = refl
one_either false false = refl

-- the bit of a place
place_bit : (place i : ℕ) → bit_at (2 ^ place) i ≡ one_if (i == place)
place_bit place i = elim (cases_eq i place) [
  | inl e ↦ subst (λ (k : ℕ). bit_at (2 ^ place) k ≡ 1) (sym e) (bit_at-pow_same place) ∙ sym (ap one_if (eq-eqb i place e))
  | inr ne ↦ bit_at-pow_other place i ne ∙ sym (ap one_if (ne_eqb i place ne))
]

-- the bits of a mask with these places besides
places_bit : (places : List ℕ) (mask i : ℕ) → bit_at (with_places mask places) i ≡ max (bit_at mask i) (one_if (has i places))
places_bit [] mask i = omega arith
places_bit (place ∷ places) mask i =
    let rest = places_bit places (with_place mask place) i in
    let here = bit_at_or mask (2 ^ place) i in
    let bit = place_bit place i in
    let both = one_either (i == place) (has i places) in
    omega arith

pub mask_bit : (places : List ℕ) (i : ℕ) → bit_at (with_places 0 places) i ≡ one_if (has i places)
mask_bit places i = let e = places_bit places 0 i in let z = bit_at-zero i in omega arith

and_if : (one other : Bool) → (one ≡ true → other ≡ true) → min (one_if one) (one_if other) ≡ one_if one
and_if true other f = ap (λ b. min 1 (one_if b)) (f refl)
and_if false true f = refl
and_if false false f = refl

-- a mask has all places of another where its places are among its
covered : (places wanted : List ℕ) → ((m : ℕ) → has m wanted ≡ true → has m places ≡ true) → covers (with_places 0 places) (with_places 0 wanted) ≡ true
covered places wanted among =
    let mask : ℕ = with_places 0 places in
    let wants : ℕ = with_places 0 wanted in
    eq-eqb (bit_and wants mask) wants (same_from_bits (bit_and wants mask) wants (λ i.
    let both = bit_at_and wants mask i in
    let one = mask_bit wanted i in
    let other = mask_bit places i in
    both ∙ ap (λ n. min n (bit_at mask i)) one ∙ ap (λ n. min (one_if (has i wanted)) n) other ∙ and_if (has i wanted) (has i places) (among i) ∙ sym one))

uncovered_by : (items : List Item) (tokens : List Token) (b : Bool) → list_any is_late items ≡ b → covers (mask_of tokens) (with_places 0 (cond b [] (wanted_from (Some edge) items))) ≡ false → (list_any is_late items ≡ false) × ((classes : Classes) (late : List (List Token)) (lengths : List ℕ) → Fits (wants classes late items) tokens lengths → ⊥)
uncovered_by items tokens true is none = absurd (true≢false (sym (covered (places_of tokens) [] (λ m h. absurd (true≢false (sym h)))) ∙ none))
uncovered_by items tokens false is none =
    (is, λ classes late lengths fits. true≢false (sym (covered (places_of tokens) (wanted_from (Some edge) items) (λ m h. wanted_there classes late items is tokens lengths fits (Some edge) edge refl m h)) ∙ none))

-- a left side that wants a place which tokens lack has no `$&x` and no match with them
pub uncovered : (items : List Item) (tokens : List Token) → covers (mask_of tokens) (wanted_mask items) ≡ false → (list_any is_late items ≡ false) × ((classes : Classes) (late : List (List Token)) (lengths : List ℕ) → Fits (wants classes late items) tokens lengths → ⊥)
uncovered items tokens none = uncovered_by items tokens (list_any is_late items) refl none
