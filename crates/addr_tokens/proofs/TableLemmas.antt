-- The table of operators.
use Rattle.std.proofs.Common.{◌≡◌, ℕ, ◌+◌, ◌<◌, ◌≤◌, ◌==◌, nat_le, Bool, true, false, not, ◌&&◌, ◌||◌, List, [], ◌∷◌, length, refl, sym, ◌∙◌, ap, ⊎_elim, get_or, set, arith}
use Rattle.std.specs.List.{list_any}
use Rattle.std.proofs.lemmas.Bool.{cases_eq, cases_lt, eq-eqb, eqb-true, ne_eqb, or_left, or_right, or_parts, or_cases, false≢true, leb-true, le-leb}
use Rattle.std.proofs.lemmas.List.{get_or-set_same, get_or-set_other}
use Rattle.mail_base.specs.Whites.{is_white}
use Rattle.addr_tokens.specs.Pieces.{is_special}
use Rattle.addr_tokens.specs.inner.Tables.{is_lone, is_asked}

-- what is listed stays so
pub stays_listed : (listed : List Bool) (i b : ℕ) → i < length listed → get_or listed b false ≡ true → get_or (set listed i true) b false ≡ true
stays_listed listed i b within is =
    ⊎_elim (λ (e : b ≡ i). ap (λ k. get_or (set listed i true) k false) e ∙ get_or-set_same listed i true false within)
    (λ (ne : b ≡ i → ⊥). get_or-set_other listed i b true false ne ∙ is) (cases_eq b i)

-- one more byte from below is listed
pub low_more : (listed : List Bool) (i b : ℕ) → i < length listed → (b < i → get_or listed b false ≡ true) → b < i + 1 → get_or (set listed i true) b false ≡ true
low_more listed i b within before few =
    ⊎_elim (λ (e : b ≡ i). ap (λ k. get_or (set listed i true) k false) e ∙ get_or-set_same listed i true false within)
    (λ (ne : b ≡ i → ⊥). get_or-set_other listed i b true false ne ∙ before (omega (arith, ne, few))) (cases_eq b i)

false_by : (x y : Bool) → (x ≡ true → y ≡ true) → y ≡ false → x ≡ false
false_by false y to none = refl
false_by true y to none = absurd (false≢true (sym none ∙ to refl))

turned : (a b : ℕ) → (a == b) ≡ false → (b == a) ≡ false
turned a b other = ne_eqb b a (λ e. false≢true (sym other ∙ eq-eqb a b (sym e)))

-- the bytes of which it is asked whether they stand in a word, beside operators and white space up to the space
abbrev pub asked_beside : List ℕ
asked_beside = 34 ∷ 92 ∷ 40 ∷ 41 ∷ 36 ∷ 127 ∷ []

-- a byte that isn't asked
pub lone_byte_is : (listed low : List Bool) (b : ℕ) → (get_or listed b false ≡ true → get_or low b false ≡ true) → (b ≤ 32 → get_or low b false ≡ true)
    → (get_or low b false || list_any (λ o. o == b) asked_beside) ≡ false → is_lone (get_or listed b false) b ≡ true
lone_byte_is listed low b kept white none =
    let p = or_parts (get_or low b false) _ none in
    let quote = or_parts (34 == b) _ p.1 in
    let slash = or_parts (92 == b) _ quote.1 in
    let opens = or_parts (40 == b) _ slash.1 in
    let closes = or_parts (41 == b) _ opens.1 in
    let dollar = or_parts (36 == b) _ closes.1 in
    let delete = or_parts (127 == b) _ dollar.1 in
    let high = false_by (nat_le b 32) (get_or low b false) (λ le. white (leb-true b 32 le)) p.0 in
    let unlisted = false_by (get_or listed b false) (get_or low b false) kept p.0 in
    λ i. not (high i || turned 127 b delete.0 i) && not (turned 34 b quote.0 i || turned 92 b slash.0 i || turned 40 b opens.0 i || turned 41 b closes.0 i) && not (unlisted i) && not (turned 36 b dollar.0 i)

-- ---- a byte that is asked

asked_white : (l : Bool) (b : ℕ) → is_white b ≡ true → is_asked l b ≡ true
asked_white l b is = or_left (is_white b) _ is

asked_special : (l : Bool) (b : ℕ) → is_special b ≡ true → is_asked l b ≡ true
asked_special l b is = or_right (is_white b) _ (or_left (is_special b) _ is)

asked_listed : (l : Bool) (b : ℕ) → l ≡ true → is_asked l b ≡ true
asked_listed l b is = or_right (is_white b) _ (or_right (is_special b) _ (or_left l (b == 36) is))

asked_dollar : (l : Bool) (b : ℕ) → b ≡ 36 → is_asked l b ≡ true
asked_dollar l b is = or_right (is_white b) _ (or_right (is_special b) _ (or_right l (b == 36) (eq-eqb b 36 is)))

asked_low : (listed low : List Bool) (b : ℕ) → (32 < b → get_or low b false ≡ get_or listed b false) → get_or low b false ≡ true → is_asked (get_or listed b false) b ≡ true
asked_low listed low b only is =
    ⊎_elim (λ (high : 32 < b). asked_listed (get_or listed b false) b (sym (only high) ∙ is))
    (λ (le : b ≤ 32). asked_white (get_or listed b false) b (or_left (nat_le b 32) _ (le-leb b 32 le))) (cases_lt 32 b)

-- a byte marked in the second table is white, special, an operator or a dollar sign
pub asked_byte_is : (listed low : List Bool) (b : ℕ) → (32 < b → get_or low b false ≡ get_or listed b false)
    → (get_or low b false || list_any (λ o. o == b) asked_beside) ≡ true → is_asked (get_or listed b false) b ≡ true
asked_byte_is listed low b only is =
    let l = get_or listed b false in
    ⊎_elim (asked_low listed low b only)
    (λ one. ⊎_elim (λ quote. asked_special l b (ap is_special (sym (eqb-true 34 b quote))))
    (λ two. ⊎_elim (λ slash. asked_special l b (ap is_special (sym (eqb-true 92 b slash))))
    (λ three. ⊎_elim (λ opens. asked_special l b (ap is_special (sym (eqb-true 40 b opens))))
    (λ four. ⊎_elim (λ closes. asked_special l b (ap is_special (sym (eqb-true 41 b closes))))
    (λ five. ⊎_elim (λ dollar. asked_dollar l b (sym (eqb-true 36 b dollar)))
    (λ six. ⊎_elim (λ delete. asked_white l b (ap is_white (sym (eqb-true 127 b delete)))) (λ none. absurd (false≢true none))
    (or_cases (127 == b) false six)) (or_cases (36 == b) _ five)) (or_cases (41 == b) _ four)) (or_cases (40 == b) _ three)) (or_cases (92 == b) _ two)) (or_cases (34 == b) _ one))
    (or_cases (get_or low b false) (list_any (λ o. o == b) asked_beside) is)
