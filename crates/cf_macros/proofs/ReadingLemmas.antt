-- How a reading goes on behind a construct.
use Rattle.std.proofs.Common.{◌≡◌, ℕ, zero, suc, ◌+◌, ◌-◌, ◌<◌, ◌≤◌, List, [], ◌∷◌, length, drop, refl, ap, sym, ◌∙◌, arith, Option, None, Some, length-drop}
use Rattle.cf_macros.specs.declared.construct.Construct.{Construct}
use Rattle.cf_macros.specs.declared.construct.Kind.{Kind}
use Rattle.cf_macros.specs.declared.construct.Kind.TheVariants.{Plain, Reference, Test, Else, End, Unclosed}
use Rattle.cf_macros.specs.declared.scope.Scope.{Scope}
use Rattle.cf_macros.specs.Constructs.{Piece, piece, first_piece}
use Rattle.cf_macros.specs.inner.Found.{Shows}
use Rattle.cf_macros.specs.Readings.{Parts, Nothing, Bytes, Refer, Choose, Reading, Last, BeforeElse, BeforeEnd, put, first_part, second_part, behind_end, closing, before, reading}
use Rattle.cf_macros.specs.inner.Insides.{rest_at, past, then_rest, ends_behind, IsBehind}

-- skipping is dropping
reading-skips : (scope : Scope) (place skipped : ℕ) (text : List ℕ) → reading scope place skipped text ≡ reading scope (skipped + place) 0 (drop skipped text)
unfolding reading
reading-skips scope place zero text = let e : 0 + place ≡ place = omega arith in rw e refl
reading-skips scope place (suc skipped) [] = refl
reading-skips scope place (suc skipped) (byte ∷ text) =
    let e : skipped + suc place ≡ suc skipped + place = omega arith in
    reading-skips scope (suc place) skipped text ∙ ap (λ n. reading scope n 0 (drop skipped text)) e

-- a text that isn't empty, by its first construct
pub reading-first : (scope : Scope) (place : ℕ) (text : List ℕ) → 0 < length text → 1 ≤ (first_piece scope text).width →
    reading scope place 0 text ≡ before (first_piece scope text).kind place (first_piece scope text) (reading scope (place + (first_piece scope text).width) 0 (drop (first_piece scope text).width text))
unfolding reading
reading-first scope place [] h moves = absurd (omega arith)
reading-first scope place (byte ∷ text) h moves = cut (first_piece scope (byte ∷ text)) moves
  where
    cut : (found : Piece) → 1 ≤ found.width → before found.kind place found (reading scope (suc place) (found.width - 1) text) ≡ before found.kind place found (reading scope (place + found.width) 0 (drop found.width (byte ∷ text)))
    cut found moves = ap (before found.kind place found) (skips found.width moves)
      where
        skips : (width : ℕ) → 1 ≤ width → reading scope (suc place) (width - 1) text ≡ reading scope (place + width) 0 (drop width (byte ∷ text))
        skips zero moves = absurd (omega arith)
        skips (suc width) moves =
            let e : suc width - 1 ≡ width = omega arith in
            let f : width + suc place ≡ place + suc width = omega arith in
            rw e (reading-skips scope (suc place) width text ∙ ap (λ n. reading scope n 0 (drop width text)) f)

drop-nil : (n : ℕ) → drop {A = ℕ} n [] ≡ []
drop-nil zero = refl
drop-nil (suc n) = refl

drop-again : (width place : ℕ) (text : List ℕ) → drop width (drop place text) ≡ drop (place + width) text
drop-again width zero text = let e : 0 + width ≡ width = omega arith in rw e refl
drop-again width (suc place) [] = drop-nil width ∙ sym (drop-nil (suc place + width))
drop-again width (suc place) (byte ∷ text) = let e : suc place + width ≡ suc (place + width) = omega arith in rw e (drop-again width place text)

-- nothing is left at a text's end
pub rest-end : (scope : Scope) (text : List ℕ) (place : ℕ) → length text ≤ place → rest_at scope text place ≡ Last Nothing
unfolding reading
rest-end scope [] place h = ap (reading scope place 0) (drop-nil place)
rest-end scope (byte ∷ text) zero h = absurd (omega arith)
rest-end scope (byte ∷ text) (suc place) h = ap (reading scope (suc place) 0) (gone text place (omega arith))
  where
    gone : (text : List ℕ) (n : ℕ) → length text ≤ n → drop n text ≡ []
    gone [] n h = drop-nil n
    gone (byte ∷ text) zero h = absurd (omega arith)
    gone (byte ∷ text) (suc n) h = gone text n (omega arith)

-- the rest of a text at a place, by the construct there
rest-first : (scope : Scope) (text : List ℕ) (place : ℕ) → 0 < length (drop place text) → 1 ≤ (first_piece scope (drop place text)).width →
    rest_at scope text place ≡ before (first_piece scope (drop place text)).kind place (first_piece scope (drop place text)) (rest_at scope text (place + (first_piece scope (drop place text)).width))
rest-first scope text place h moves =
    reading-first scope place (drop place text) h moves
    ∙ ap (λ t. before (first_piece scope (drop place text)).kind place (first_piece scope (drop place text)) (reading scope (place + (first_piece scope (drop place text)).width) 0 t)) (drop-again (first_piece scope (drop place text)).width place text)

past-put : (front : Parts → Parts) (rest : Reading) (ends : ℕ) → past (suc ends) (put front rest) ≡ past (suc ends) rest
past-put front (Last parts) ends = refl
past-put front (BeforeElse parts more) ends = refl
past-put front (BeforeEnd parts more) ends = refl

past-closing : (place : ℕ) (name : List ℕ) (inner : Reading) (after : Option Reading) (ends : ℕ) → past (suc ends) (closing place name inner after) ≡ then_rest (past (suc ends)) after
past-closing place name inner None ends = refl
past-closing place name inner (Some after) ends = past-put (Choose name (first_part inner) (second_part inner)) after ends

-- a construct is passed by counting the signs that are still to pass
past-before : (kind : Kind) (place : ℕ) (found : Piece) (rest : Reading) (ends : ℕ) → (kind ≡ Unclosed → ⊥) → past (suc ends) (before kind place found rest) ≡ past (ends_behind kind (suc ends)) rest
past-before Plain place found rest ends h = past-put (Bytes found.text) rest ends
past-before Reference place found rest ends h = past-put (Refer found.text) rest ends
past-before Test place found rest ends h = past-closing place found.text rest (behind_end rest) ends
past-before Else place found rest ends h = refl
past-before End place found rest ends h = refl
past-before Unclosed place found rest ends h = absurd (h refl)

-- the rest of a text at a place, by the construct that the code found there
rest-found : (scope : Scope) (text front : List ℕ) (place : ℕ) (found : Construct) → front ≡ drop place text → place < length text → Shows found (first_piece scope front) (length front) →
    rest_at scope text place ≡ before found.kind place (piece found.kind found.text.now found.width) (rest_at scope text (place + found.width))
rest-found scope text front place found e h shows =
    let there : 0 < length (drop place text) = omega (arith, length-drop place text) in
    let same : first_piece scope front ≡ first_piece scope (drop place text) = ap (first_piece scope) e in
    let width : found.width ≡ (first_piece scope (drop place text)).width = shows.width ∙ ap (λ p. p.width) same in
    let kind : found.kind ≡ (first_piece scope (drop place text)).kind = shows.kind ∙ ap (λ p. p.kind) same in
    let shown : found.text.now ≡ (first_piece scope (drop place text)).text = shows.text ∙ ap (λ p. p.text) same in
    let goes : 1 ≤ (first_piece scope (drop place text)).width = omega (arith, width, shows.moves) in
    rest-first scope text place there goes ∙ sym (rw (kind, width, shown) refl)

-- one step of a scan
pub scan-step : (scope : Scope) (text front : List ℕ) (place ends : ℕ) (found : Construct) → front ≡ drop place text → place < length text → Shows found (first_piece scope front) (length front) → (found.kind ≡ Unclosed → ⊥) → 1 ≤ ends →
    past ends (rest_at scope text place) ≡ past (ends_behind found.kind ends) (rest_at scope text (place + found.width))
scan-step scope text front place zero found e h shows known some = absurd (omega arith)
scan-step scope text front place (suc ends) found e h shows known some =
    ap (past (suc ends)) (rest-found scope text front place found e h shows)
    ∙ past-before found.kind place (piece found.kind found.text.now found.width) (rest_at scope text (place + found.width)) ends known

-- a scan ends where something is unclosed
pub scan-unclosed : (scope : Scope) (text front : List ℕ) (place ends : ℕ) (found : Construct) → front ≡ drop place text → place < length text → Shows found (first_piece scope front) (length front) → found.kind ≡ Unclosed → 1 ≤ ends →
    past ends (rest_at scope text place) ≡ None
scan-unclosed scope text front place zero found e h shows known some = absurd (omega arith)
scan-unclosed scope text front place (suc ends) found e h shows known some =
    ap (past (suc ends)) (rest-found scope text front place found e h shows)
    ∙ ap (λ k. past (suc ends) (before k place (piece found.kind found.text.now found.width) (rest_at scope text (place + found.width)))) known

-- no `$.` comes at the end of a text
pub scan-end : (scope : Scope) (text : List ℕ) (place ends : ℕ) → length text ≤ place → 1 ≤ ends → past ends (rest_at scope text place) ≡ None
scan-end scope text place zero h some = absurd (omega arith)
scan-end scope text place (suc ends) h some = ap (past (suc ends)) (rest-end scope text place h)

-- a construct opens one conditional at most
pub few-ends : (kind : Kind) (ends : ℕ) → ends_behind kind ends ≤ ends + 1
few-ends Plain ends = omega arith
few-ends Reference ends = omega arith
few-ends Test ends = omega arith
few-ends Else ends = omega arith
few-ends End zero = omega arith
few-ends End (suc ends) = omega arith
few-ends Unclosed ends = omega arith

-- the two are cut alike behind their first parts
pub record SameBehind (one other : Reading) : Type 0 where
  pub second : second_part one ≡ second_part other
  pub behind : behind_end one ≡ behind_end other

same-put : (front : Parts → Parts) (rest : Reading) → SameBehind (put front rest) rest
same-put front (Last parts) = record { second = refl; behind = refl }
same-put front (BeforeElse parts more) = record { second = refl; behind = refl }
same-put front (BeforeEnd parts more) = record { second = refl; behind = refl }

same-along : (one other third : Reading) → one ≡ other → SameBehind other third → SameBehind one third
same-along one other third e same = record { second = ap second_part e ∙ same.second; behind = ap behind_end e ∙ same.behind }

same-to : (one other third : Reading) → SameBehind one other → other ≡ third → SameBehind one third
same-to one other third same e = record { second = same.second ∙ ap second_part e; behind = same.behind ∙ ap behind_end e }

then-some : (rest : Option Reading) (after : Option Reading) → then_rest (past 0) rest ≡ after → rest ≡ after
then-some None after e = e
then-some (Some rest) after e = e

-- what comes behind one `$.` is what comes behind the first
pub behind-of-past : (rest : Reading) (after : Option Reading) → past 1 rest ≡ after → behind_end rest ≡ after
behind-of-past rest after e = then-some (behind_end rest) after e

mark-behind : (scope : Scope) (text : List ℕ) (kind : Kind) (place passed : ℕ) (found : Piece) → (kind ≡ Unclosed → ⊥) → (kind ≡ Else → ⊥) → (kind ≡ End → ⊥) → IsBehind scope text kind (place + found.width) (Some passed) →
    SameBehind (before kind place found (rest_at scope text (place + found.width))) (rest_at scope text passed)
mark-behind scope text Plain place passed found a b d e =
    let f : place + found.width ≡ passed = cc in
    same-to (put (Bytes found.text) (rest_at scope text (place + found.width))) (rest_at scope text (place + found.width)) (rest_at scope text passed) (same-put (Bytes found.text) (rest_at scope text (place + found.width))) (ap (rest_at scope text) f)
mark-behind scope text Reference place passed found a b d e =
    let f : place + found.width ≡ passed = cc in
    same-to (put (Refer found.text) (rest_at scope text (place + found.width))) (rest_at scope text (place + found.width)) (rest_at scope text passed) (same-put (Refer found.text) (rest_at scope text (place + found.width))) (ap (rest_at scope text) f)
mark-behind scope text Test place passed found a b d e =
    let there : behind_end (rest_at scope text (place + found.width)) ≡ Some (rest_at scope text passed) = behind-of-past (rest_at scope text (place + found.width)) (Some (rest_at scope text passed)) e.0 in
    rw there (same-put (Choose found.text (first_part (rest_at scope text (place + found.width))) (second_part (rest_at scope text (place + found.width)))) (rest_at scope text passed))
mark-behind scope text Else place passed found a b d e = absurd (b refl)
mark-behind scope text End place passed found a b d e = absurd (d refl)
mark-behind scope text Unclosed place passed found a b d e = absurd (a refl)

-- a construct that was passed leaves what is behind the first part as it was
pub mark-step : (scope : Scope) (text front : List ℕ) (place passed : ℕ) (found : Construct) → front ≡ drop place text → place < length text → Shows found (first_piece scope front) (length front) → (found.kind ≡ Unclosed → ⊥) → (found.kind ≡ Else → ⊥) → (found.kind ≡ End → ⊥) → IsBehind scope text found.kind (place + found.width) (Some passed) →
    SameBehind (rest_at scope text place) (rest_at scope text passed)
mark-step scope text front place passed found e h shows a b d behind =
    same-along (rest_at scope text place) (before found.kind place (piece found.kind found.text.now found.width) (rest_at scope text (place + found.width))) (rest_at scope text passed)
    (rest-found scope text front place found e h shows)
    (mark-behind scope text found.kind place passed (piece found.kind found.text.now found.width) a b d behind)

mark-open : (scope : Scope) (text : List ℕ) (kind : Kind) (place : ℕ) (found : Piece) → (kind ≡ Else → ⊥) → (kind ≡ End → ⊥) → IsBehind scope text kind (place + found.width) None →
    SameBehind (before kind place found (rest_at scope text (place + found.width))) (Last Nothing)
mark-open scope text Plain place found b d e = cc
mark-open scope text Reference place found b d e = cc
mark-open scope text Test place found b d e =
    let there : behind_end (rest_at scope text (place + found.width)) ≡ None = behind-of-past (rest_at scope text (place + found.width)) None e in
    rw there (record { second = refl; behind = refl })
mark-open scope text Else place found b d e = absurd (b refl)
mark-open scope text End place found b d e = absurd (d refl)
mark-open scope text Unclosed place found b d e = record { second = refl; behind = refl }

-- a conditional that nothing closes leaves nothing behind the first part
pub mark-none : (scope : Scope) (text front : List ℕ) (place : ℕ) (found : Construct) → front ≡ drop place text → place < length text → Shows found (first_piece scope front) (length front) → (found.kind ≡ Else → ⊥) → (found.kind ≡ End → ⊥) → IsBehind scope text found.kind (place + found.width) None →
    SameBehind (rest_at scope text place) (Last Nothing)
mark-none scope text front place found e h shows b d behind =
    same-along (rest_at scope text place) (before found.kind place (piece found.kind found.text.now found.width) (rest_at scope text (place + found.width))) (Last Nothing)
    (rest-found scope text front place found e h shows)
    (mark-open scope text found.kind place (piece found.kind found.text.now found.width) b d behind)

-- the rest by the construct there, where its kind is known
pub rest-kind : (scope : Scope) (text front : List ℕ) (place : ℕ) (found : Construct) (kind : Kind) → front ≡ drop place text → place < length text → Shows found (first_piece scope front) (length front) → found.kind ≡ kind →
    rest_at scope text place ≡ before kind place (piece kind found.text.now found.width) (rest_at scope text (place + found.width))
rest-kind scope text front place found kind e h shows k =
    rest-found scope text front place found e h shows ∙ ap (λ kind. before kind place (piece kind found.text.now found.width) (rest_at scope text (place + found.width))) k

-- at the end of a text nothing is behind the first part
pub same-end : (scope : Scope) (text : List ℕ) (place : ℕ) → length text ≤ place → SameBehind (rest_at scope text place) (Last Nothing)
same-end scope text place h = rw (rest-end scope text place h) (record { second = refl; behind = refl })

-- a construct that was passed ends further on, within the text
pub behind-bounds : (scope : Scope) (text : List ℕ) (kind : Kind) (next passed : ℕ) → next ≤ length text → IsBehind scope text kind next (Some passed) → (next ≤ passed) × (passed ≤ length text)
behind-bounds scope text Plain next passed h e = let f : next ≡ passed = cc in (omega arith, omega arith)
behind-bounds scope text Reference next passed h e = let f : next ≡ passed = cc in (omega arith, omega arith)
behind-bounds scope text Test next passed h e = (e.1, e.2)
behind-bounds scope text Else next passed h e = let f : next ≡ passed = cc in (omega arith, omega arith)
behind-bounds scope text End next passed h e = let f : next ≡ passed = cc in (omega arith, omega arith)
behind-bounds scope text Unclosed next passed h e = let f : next ≡ passed = cc in (omega arith, omega arith)

-- what was found at a place ends within the text
pub found-within : (scope : Scope) (text front : List ℕ) (place : ℕ) (found : Construct) → front ≡ drop place text → place < length text → Shows found (first_piece scope front) (length front) → place + found.width ≤ length text
found-within scope text front place found e h shows = omega (arith, ap length e, length-drop place text, shows.within)
