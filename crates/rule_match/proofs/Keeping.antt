-- The cuts that are kept of a match.
use Rattle.std.proofs.Common.{◌≡◌, ◌≢◌, ℕ, ◌+◌, ◌-◌, ◌≤◌, List, [], ◌∷◌, length, take, drop, Bool, true, false, zero, suc, refl, sym, ◌∙◌, ap, subst, arith}
use Rattle.std.specs.Prelude.{◌==◌, slice_get, unwrap_or}
use Rattle.std.proofs.lemmas.Bool.{ne_eqb}
use Rattle.std.proofs.lemmas.List.{drop-drop, length-drop}
use Rattle.mail_base.specs.declared.token.Token.{Token}
use Rattle.mail_base.specs.declared.classes.Classes.{Classes}
use Rattle.mail_base.specs.declared.rule.Item.{Item}
use Rattle.mail_base.specs.declared.rule.Item.TheVariants.{Any, More, One, Empty, InClass, NotInClass, Exact, Late}
use Rattle.mail_base.specs.Metas.{is_meta}
use Rattle.rule_match.specs.declared.cuts.Cut.{Cut}
use Rattle.rule_match.specs.Wants.{want, wants, lists_after}
use Rattle.rule_match.specs.Choices.{Fits}
use Rattle.rule_match.specs.Kept.{is_binding, kept_cuts, lengths_of, bound_pieces, bound_piece}
use Rattle.rule_match.specs.inner.Steps.{piece_behind, AreWithin}
use Rattle.rule_match.proofs.Fitting.{fits_fixed}

-- what isn't written with `$` takes one token
other_one : (classes : Classes) (late : List (List Token)) (item : Item) (items : List Item) (tokens : List Token) (n : ℕ) (later : List ℕ) → is_meta item ≡ false → Fits (wants classes late (item ∷ items)) tokens (n ∷ later) → n ≡ 1
other_one classes late Any items tokens n later m h = absurd cc
other_one classes late More items tokens n later m h = absurd cc
other_one classes late One items tokens n later m h = absurd cc
other_one classes late Empty items tokens n later m h = absurd cc
other_one classes late (InClass name) items tokens n later m h = absurd cc
other_one classes late (NotInClass name) items tokens n later m h = absurd cc
other_one classes late (Exact token) items tokens n later m h = (fits_fixed (want classes late (Exact token)) (wants classes late items) tokens n later refl h).one
other_one classes late (Late name) items tokens n later m h = absurd cc

-- of a metasymbol a cut is kept
pub kept_meta : (item : Item) (items : List Item) (at n : ℕ) (lengths : List ℕ) → is_meta item ≡ true → kept_cuts (item ∷ items) at (n ∷ lengths) ≡ record { start = at; length = n; binds = is_binding item } ∷ kept_cuts items (at + n) lengths
kept_meta item items at n lengths h = rw h refl

-- of a token no cut is kept
pub kept_other : (item : Item) (items : List Item) (at n : ℕ) (lengths : List ℕ) → is_meta item ≡ false → kept_cuts (item ∷ items) at (n ∷ lengths) ≡ kept_cuts items (at + n) lengths
kept_other item items at n lengths h = rw h refl

lengths_meta : (item : Item) (items : List Item) (cut : Cut) (cuts : List Cut) → is_meta item ≡ true → lengths_of (item ∷ items) (cut ∷ cuts) ≡ cut.length ∷ lengths_of items cuts
lengths_meta item items cut cuts h = rw h refl

lengths_other : (item : Item) (items : List Item) (cuts : List Cut) → is_meta item ≡ false → lengths_of (item ∷ items) cuts ≡ 1 ∷ lengths_of items cuts
lengths_other item items [] h = rw h refl
lengths_other item items (cut ∷ cuts) h = rw h refl

put_by : (classes : Classes) (late : List (List Token)) (item : Item) (items : List Item) (tokens : List Token) (at n : ℕ) (later : List ℕ) (meta : Bool) → is_meta item ≡ meta → Fits (wants classes late (item ∷ items)) tokens (n ∷ later)
    → lengths_of items (kept_cuts items (at + n) later) ≡ later → lengths_of (item ∷ items) (kept_cuts (item ∷ items) at (n ∷ later)) ≡ n ∷ later
put_by classes late item items tokens at n later true m h rest =
    ap (lengths_of (item ∷ items)) (kept_meta item items at n later m) ∙ lengths_meta item items (record { start = at; length = n; binds = is_binding item }) (kept_cuts items (at + n) later) m ∙ ap (λ ns. n ∷ ns) rest
put_by classes late item items tokens at n later false m h rest =
    ap (lengths_of (item ∷ items)) (kept_other item items at n later m) ∙ lengths_other item items (kept_cuts items (at + n) later) m ∙ ap (λ ns. 1 ∷ ns) rest ∙ ap (λ k. k ∷ later) (sym (other_one classes late item items tokens n later m h))

-- the kept cuts tell all lengths
pub put_back : (classes : Classes) (late : List (List Token)) (items : List Item) (tokens : List Token) (at : ℕ) (lengths : List ℕ) → Fits (wants classes late items) tokens lengths → lengths_of items (kept_cuts items at lengths) ≡ lengths
put_back classes late [] tokens at [] h = refl
put_back classes late [] [] at (n ∷ later) h = absurd h
put_back classes late [] (token ∷ tokens) at (n ∷ later) h = absurd h
put_back classes late (item ∷ items) tokens at [] h = absurd h
put_back classes late (item ∷ items) tokens at (n ∷ later) h = put_by classes late item items tokens at n later (is_meta item) refl h (put_back classes (lists_after item late) items (drop n tokens) (at + n) later h.2)

-- what isn't written with `$` doesn't bind
other_binds : (item : Item) → is_meta item ≡ false → is_binding item ≡ false
other_binds Any h = absurd cc
other_binds More h = absurd cc
other_binds One h = absurd cc
other_binds Empty h = refl
other_binds (InClass name) h = absurd cc
other_binds (NotInClass name) h = absurd cc
other_binds (Exact token) h = refl
other_binds (Late name) h = refl

-- the cuts of a match end within the tokens
within_by : (item : Item) (items : List Item) (at n size : ℕ) (later : List ℕ) (meta : Bool) → is_meta item ≡ meta → at + n ≤ size → AreWithin size (kept_cuts items (at + n) later) → AreWithin size (kept_cuts (item ∷ items) at (n ∷ later))
within_by item items at n size later true m le rest = subst (AreWithin size) (sym (kept_meta item items at n later m)) (le, rest)
within_by item items at n size later false m le rest = subst (AreWithin size) (sym (kept_other item items at n later m)) rest

room : (tokens : List Token) (at n : ℕ) → at ≤ length tokens → n ≤ length (drop at tokens) → at + n ≤ length tokens
room tokens at n le h = let e = length-drop at tokens in omega arith

-- the cuts that are kept of what fits are within the tokens
pub kept_within : (classes : Classes) (late : List (List Token)) (items : List Item) (tokens : List Token) (at : ℕ) (lengths : List ℕ) → at ≤ length tokens → Fits (wants classes late items) (drop at tokens) lengths → AreWithin (length tokens) (kept_cuts items at lengths)
kept_within classes late [] tokens at lengths le h = tt
kept_within classes late (item ∷ items) tokens at [] le h = absurd h
kept_within classes late (item ∷ items) tokens at (n ∷ later) le h =
    let more = room tokens at n le h.0 in
    within_by item items at n (length tokens) later (is_meta item) refl more (kept_within classes (lists_after item late) items tokens (at + n) later more (subst (λ xs. Fits (wants classes (lists_after item late) items) xs later) (drop-drop n at tokens) h.2))

-- the piece behind so many binding items, by the pieces
abbrev nth : List (List Token) → ℕ → List Token
nth pieces k = unwrap_or (slice_get pieces k) []

-- an item that binds, and one that doesn't
binds_first : (item : Item) (items : List Item) (tokens : List Token) (at n : ℕ) (later : List ℕ) → is_meta item ≡ true → is_binding item ≡ true
    → piece_behind tokens (kept_cuts (item ∷ items) at (n ∷ later)) 0 ≡ nth (bound_pieces (item ∷ items) (drop at tokens) (n ∷ later)) 0
binds_first item items tokens at n later m b =
    let same : (at + n) - at ≡ n = omega arith in
    ap (λ cs. piece_behind tokens cs 0) (kept_meta item items at n later m) ∙ rw b (ap (λ k. take k (drop at tokens)) same)

binds_next : (item : Item) (items : List Item) (tokens : List Token) (at n : ℕ) (later : List ℕ) (k : ℕ) → is_meta item ≡ true → is_binding item ≡ true
    → piece_behind tokens (kept_cuts items (at + n) later) k ≡ nth (bound_pieces items (drop n (drop at tokens)) later) k
    → piece_behind tokens (kept_cuts (item ∷ items) at (n ∷ later)) (suc k) ≡ nth (bound_pieces (item ∷ items) (drop at tokens) (n ∷ later)) (suc k)
binds_next item items tokens at n later k m b rest =
    let back : suc k - 1 ≡ k = omega arith in
    let more : (suc k == 0) ≡ false = ne_eqb (suc k) 0 (λ e. omega arith) in
    ap (λ cs. piece_behind tokens cs (suc k)) (kept_meta item items at n later m) ∙ rw (b, more) (ap (piece_behind tokens (kept_cuts items (at + n) later)) back ∙ rest)

binds_not : (item : Item) (items : List Item) (tokens : List Token) (at n : ℕ) (later : List ℕ) (k : ℕ) (meta : Bool) → is_meta item ≡ meta → is_binding item ≡ false
    → piece_behind tokens (kept_cuts items (at + n) later) k ≡ nth (bound_pieces items (drop n (drop at tokens)) later) k
    → piece_behind tokens (kept_cuts (item ∷ items) at (n ∷ later)) k ≡ nth (bound_pieces (item ∷ items) (drop at tokens) (n ∷ later)) k
binds_not item items tokens at n later k true m b rest = ap (λ cs. piece_behind tokens cs k) (kept_meta item items at n later m) ∙ rw b rest
binds_not item items tokens at n later k false m b rest = ap (λ cs. piece_behind tokens cs k) (kept_other item items at n later m) ∙ rw b rest

binds_by : (item : Item) (items : List Item) (tokens : List Token) (at n : ℕ) (later : List ℕ) (k : ℕ) (meta binding : Bool) → is_meta item ≡ meta → is_binding item ≡ binding
    → ((j : ℕ) → piece_behind tokens (kept_cuts items (at + n) later) j ≡ nth (bound_pieces items (drop n (drop at tokens)) later) j)
    → piece_behind tokens (kept_cuts (item ∷ items) at (n ∷ later)) k ≡ nth (bound_pieces (item ∷ items) (drop at tokens) (n ∷ later)) k
binds_by item items tokens at n later k meta false m b rest = binds_not item items tokens at n later k meta m b (rest k)
binds_by item items tokens at n later zero true true m b rest = binds_first item items tokens at n later m b
binds_by item items tokens at n later (suc k) true true m b rest = binds_next item items tokens at n later k m b (rest k)
binds_by item items tokens at n later k false true m b rest = let e = other_binds item m in absurd (cc (e, b))

pieces_same : (items : List Item) (tokens : List Token) (at : ℕ) (lengths : List ℕ) (k : ℕ) → piece_behind tokens (kept_cuts items at lengths) k ≡ nth (bound_pieces items (drop at tokens) lengths) k
pieces_same [] tokens at lengths k = none_at k
  where
    none_at : (j : ℕ) → [] ≡ nth [] j
    none_at zero = refl
    none_at (suc j) = refl
pieces_same (item ∷ items) tokens at [] k = none_at k
  where
    none_at : (j : ℕ) → [] ≡ nth [] j
    none_at zero = refl
    none_at (suc j) = refl
pieces_same (item ∷ items) tokens at (n ∷ later) k =
    binds_by item items tokens at n later k (is_meta item) (is_binding item) refl refl
    (λ j. pieces_same items tokens (at + n) later j ∙ ap (λ xs. nth (bound_pieces items xs later) j) (sym (drop-drop n at tokens)))

-- the piece of a number is what the cut of that number takes
pub piece_is : (items : List Item) (tokens : List Token) (lengths : List ℕ) (number : ℕ) → number ≢ 0 → piece_behind tokens (kept_cuts items 0 lengths) (number - 1) ≡ bound_piece items tokens lengths number
piece_is items tokens lengths zero ne = absurd (ne refl)
piece_is items tokens lengths (suc k) ne = let back : suc k - 1 ≡ k = omega arith in ap (piece_behind tokens (kept_cuts items 0 lengths)) back ∙ pieces_same items tokens 0 lengths k
