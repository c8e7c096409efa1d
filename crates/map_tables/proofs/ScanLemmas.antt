-- The steps of a scan, byte by byte.
use Rattle.std.proofs.Common.{◌≡◌, ◌≢◌, ℕ, ◌+◌, ◌-◌, ◌<◌, ◌≤◌, false, List, [], ◌∷◌, ◌++◌, length, get_or, drop, refl, sym, ap, ◌∙◌, arith, ◌==◌}
use Rattle.std.proofs.lemmas.Bool.{cond-true, cond-false, eq-eqb, ne_eqb}
use Rattle.std.proofs.lemmas.List.{append_assoc, append-nil, length-drop, drop_more, drop_all, at_drop_more}
use Rattle.map_tables.specs.Percents.{filled, sign_text}
use Rattle.map_tables.specs.Quotes.{unquoted}
use Rattle.map_tables.specs.inner.Depths.{is_closed_from}

-- what was gathered and what is left are the whole, after more was gathered
pub gathers : (text more rest before whole now : List ℕ) → now ≡ text ++ more → before ≡ more ++ rest → text ++ before ≡ whole → now ++ rest ≡ whole
gathers text more rest before whole now put was so_far =
    ap (λ (t : List ℕ). t ++ rest) put ∙ append_assoc text more rest ∙ ap (λ (r : List ℕ). text ++ r) (sym was) ∙ so_far

-- nothing is left
pub gathered : (text rest whole : List ℕ) → rest ≡ [] → text ++ rest ≡ whole → text ≡ whole
gathered text rest whole none so_far = sym (append-nil text) ∙ ap (λ (r : List ℕ). text ++ r) (sym none) ∙ so_far

-- two bytes stand in front
drop_two : (text : List ℕ) (place : ℕ) → place + 1 < length text → drop place text ≡ get_or text place 0 ∷ get_or text (place + 1) 0 ∷ drop (place + 2) text
drop_two text place within =
    let next : place + 1 + 1 ≡ place + 2 = omega arith in
    drop_more text place 0 (omega (arith, within))
    ∙ ap (λ (r : List ℕ). get_or text place 0 ∷ r) (drop_more text (place + 1) 0 within ∙ ap (λ n. get_or text (place + 1) 0 ∷ drop n text) next)

module _ (key : List ℕ) (args : List (List ℕ)) where
  sign_first : (byte next : ℕ) (rest : List ℕ) → byte ≡ 37 → filled key args (byte ∷ next ∷ rest) ≡ sign_text key args next ++ filled key args rest
  unfolding filled
  sign_first byte next rest is = cond-true _ (sign_text key args next ++ filled key args rest) (byte ∷ filled key args (next ∷ rest)) (eq-eqb byte 37 is)

  plain_first : (byte : ℕ) (rest : List ℕ) → (byte ≡ 37 → 0 < length rest → ⊥) → filled key args (byte ∷ rest) ≡ byte ∷ filled key args rest
  unfolding filled
  plain_first byte [] differs = refl
  plain_first byte (next ∷ rest) differs = cond-false _ (sign_text key args next ++ filled key args rest) (byte ∷ filled key args (next ∷ rest)) (ne_eqb byte 37 (λ e. differs e (omega arith)))

  -- a percent sign and the byte behind it
  pub fills_sign : (text : List ℕ) (place : ℕ) → place + 1 < length text → get_or text place 0 ≡ 37
      → filled key args (drop place text) ≡ sign_text key args (get_or text (place + 1) 0) ++ filled key args (drop (place + 2) text)
  fills_sign text place within is = ap (filled key args) (drop_two text place within) ∙ sign_first _ _ _ is

  -- any other byte
  pub fills_plain : (text : List ℕ) (place : ℕ) → place < length text → (get_or text place 0 ≡ 37 → place + 1 < length text → ⊥)
      → filled key args (drop place text) ≡ (get_or text place 0 ∷ []) ++ filled key args (drop (place + 1) text)
  fills_plain text place within differs =
      at_drop_more (filled key args) text place 0 within
      ∙ plain_first _ _ (λ e some. differs e (omega (arith, length-drop (place + 1) text, some)))

  -- the end
  pub fills_none : (text : List ℕ) (place : ℕ) → length text ≤ place → filled key args (drop place text) ≡ []
  unfolding filled
  fills_none text place le = ap (filled key args) (drop_all place text le)

quoted_first : (byte next : ℕ) (rest : List ℕ) → byte ≡ 92 → unquoted (byte ∷ next ∷ rest) ≡ unquoted rest
unfolding unquoted
quoted_first byte next rest is = cond-true _ (unquoted rest) (byte ∷ unquoted (next ∷ rest)) (eq-eqb byte 92 is)

unquoted_first : (byte : ℕ) (rest : List ℕ) → (byte ≡ 92 → 0 < length rest → ⊥) → unquoted (byte ∷ rest) ≡ byte ∷ unquoted rest
unfolding unquoted
unquoted_first byte [] differs = refl
unquoted_first byte (next ∷ rest) differs = cond-false _ (unquoted rest) (byte ∷ unquoted (next ∷ rest)) (ne_eqb byte 92 (λ e. differs e (omega arith)))

-- a backslash and the byte that it quotes
pub skips_quoted : (text : List ℕ) (place : ℕ) → place + 1 < length text → get_or text place 0 ≡ 92 → unquoted (drop place text) ≡ unquoted (drop (place + 2) text)
skips_quoted text place within is = ap unquoted (drop_two text place within) ∙ quoted_first _ _ _ is

-- any other byte
pub keeps_unquoted : (text : List ℕ) (place : ℕ) → place < length text → (get_or text place 0 ≡ 92 → place + 1 < length text → ⊥)
    → unquoted (drop place text) ≡ (get_or text place 0 ∷ []) ++ unquoted (drop (place + 1) text)
keeps_unquoted text place within differs =
    at_drop_more unquoted text place 0 within
    ∙ unquoted_first _ _ (λ e some. differs e (omega (arith, length-drop (place + 1) text, some)))

-- the end
pub keeps_none : (text : List ℕ) (place : ℕ) → length text ≤ place → unquoted (drop place text) ≡ []
unfolding unquoted
keeps_none text place le = ap unquoted (drop_all place text le)

module _ (opens closes : ℕ) where
  at_opening : (depth byte : ℕ) (rest : List ℕ) → byte ≡ opens → is_closed_from opens closes depth (byte ∷ rest) ≡ is_closed_from opens closes (depth + 1) rest
  unfolding is_closed_from
  at_opening depth byte rest is = grind (arith, is)

  at_closing : (depth byte : ℕ) (rest : List ℕ) → byte ≢ opens → byte ≡ closes → depth ≢ 0 → is_closed_from opens closes depth (byte ∷ rest) ≡ is_closed_from opens closes (depth - 1) rest
  unfolding is_closed_from
  at_closing depth byte rest differs is some = grind (arith, differs, is, some)

  at_lone : (depth byte : ℕ) (rest : List ℕ) → byte ≢ opens → byte ≡ closes → depth ≡ 0 → is_closed_from opens closes depth (byte ∷ rest) ≡ false
  unfolding is_closed_from
  at_lone depth byte rest differs is none = grind (arith, differs, is, none)

  at_other : (depth byte : ℕ) (rest : List ℕ) → byte ≢ opens → byte ≢ closes → is_closed_from opens closes depth (byte ∷ rest) ≡ is_closed_from opens closes depth rest
  unfolding is_closed_from
  at_other depth byte rest differs other = grind (arith, differs, other)

  module _ (text : List ℕ) (i : ℕ) (within : i < length text) (depth now : ℕ) where
    first : is_closed_from opens closes depth (drop i text) ≡ is_closed_from opens closes depth (get_or text i 0 ∷ drop (i + 1) text)
    first = at_drop_more (is_closed_from opens closes depth) text i 0 within

    behind : (other : ℕ) → now ≡ other → is_closed_from opens closes now (drop (i + 1) text) ≡ is_closed_from opens closes other (drop (i + 1) text)
    behind other same = ap (λ d. is_closed_from opens closes d (drop (i + 1) text)) same

    -- an opening byte goes one deeper
    pub opened : get_or text i 0 ≡ opens → now ≡ depth + 1 → is_closed_from opens closes now (drop (i + 1) text) ≡ is_closed_from opens closes depth (drop i text)
    opened is same = behind _ same ∙ sym (first ∙ at_opening depth _ _ is)

    -- a closing byte comes back out by one
    pub closed : get_or text i 0 ≢ opens → get_or text i 0 ≡ closes → depth ≢ 0 → now ≡ depth - 1 → is_closed_from opens closes now (drop (i + 1) text) ≡ is_closed_from opens closes depth (drop i text)
    closed differs is some same = behind _ same ∙ sym (first ∙ at_closing depth _ _ differs is some)

    -- any other byte leaves the depth as it is
    pub passed : get_or text i 0 ≢ opens → get_or text i 0 ≢ closes → now ≡ depth → is_closed_from opens closes now (drop (i + 1) text) ≡ is_closed_from opens closes depth (drop i text)
    passed differs other same = behind _ same ∙ sym (first ∙ at_other depth _ _ differs other)

    -- a closing byte that closes nothing makes the text unbalanced
    pub lone : get_or text i 0 ≢ opens → get_or text i 0 ≡ closes → depth ≡ 0 → is_closed_from opens closes depth (drop i text) ≡ false
    lone differs is none = first ∙ at_lone depth _ _ differs is none

  -- a text that ends is balanced just at depth 0
  pub at_end : (text : List ℕ) (i depth : ℕ) → length text ≤ i → is_closed_from opens closes depth (drop i text) ≡ (depth == 0)
  unfolding is_closed_from
  at_end text i depth le = ap (is_closed_from opens closes depth) (drop_all i text le)
