-- A whole text, line by line.
use Rattle.std.proofs.Common.{◌≡◌, ℕ, zero, suc, ◌+◌, ◌-◌, ◌<◌, ◌≤◌, ◌==◌, ◌||◌, ◌&&◌, Bool, true, false, not, List, [], ◌∷◌, ◌++◌, length, take, drop, get_or, slice_index, nat_lt, Some, None, refl, sym, ap, subst, ◌∙◌, arith, ⊎_elim}
use Rattle.std.specs.List.{list_all}
use Rattle.std.proofs.lemmas.Bool.{cond-true, cond-false, cases_Bool, and_parts, or_parts, or_from, or_cases, not-true, lt-ltb, false≢true, false_from_ne_true}
use Rattle.std.proofs.lemmas.List.{append_assoc, append-nil, length-append, length-take, length-drop, take_more, get_or_at}
use Rattle.bstr.specs.Find.{IsFirstByte, is_byte}
use Rattle.mail_base.specs.Texts.{crlf, is_lf, has_lf}
use Rattle.mail_base.proofs.FeedLemmas.{tails, first_lf, no_lf, cut_lf}
use Rattle.mail_header.specs.Headers.{is_plain, is_header, is_continuation, IsFolded, last_fold, one_fold, IsHeaderText, unfolded, folded, AreHeaders, no_headers, one_header, with_end, text_of, is_some_line, IsBody, behind_empty_line, at_once, has_crlf}
use Rattle.mail_header.specs.inner.Added.{onto_last, header_added}
use Rattle.mail_header.specs.Lines.{belongs}
use Rattle.mail_header.specs.inner.Wholes.{BeginsLine, NoLine}
use Rattle.mail_header.proofs.GrammarLemmas.{first_crlf, header_plain, fold_plain, not_both}

-- ---- LF

lf_here : (line more : List ℕ) → has_lf (line ++ 10 ∷ more) ≡ true
lf_here [] more = refl
lf_here (b ∷ line) more = ap (λ t. is_lf b || t) (lf_here line more) ∙ or_true (is_lf b)
  where
    or_true : (b : Bool) → (b || true) ≡ true
    or_true true = refl
    or_true false = refl

plain_no_lf : (line : List ℕ) → list_all is_plain line ≡ true → has_lf line ≡ false
plain_no_lf [] h = refl
plain_no_lf (b ∷ line) h =
    let p = and_parts (is_plain b) (list_all is_plain line) h in
    let q = and_parts (not (b == 13)) (not (b == 10)) p.0 in
    or_from _ _ (not-true _ q.1) (plain_no_lf line p.1)

cr_no_lf : (line : List ℕ) → has_lf line ≡ false → has_lf (line ++ 13 ∷ []) ≡ false
cr_no_lf [] h = refl
cr_no_lf (b ∷ line) h = let p = or_parts (is_lf b) (has_lf line) h in or_from _ _ p.0 (cr_no_lf line p.1)

no_lf_no_crlf : (line : List ℕ) → has_lf line ≡ false → has_crlf line ≡ false
no_lf_no_crlf [] h = refl
no_lf_no_crlf (b ∷ []) h = or_from ((b == 13) && (0 == 10)) false (and_no (b == 13)) refl
  where
    and_no : (x : Bool) → (x && false) ≡ false
    and_no true = refl
    and_no false = refl
no_lf_no_crlf (b ∷ c ∷ line) h =
    let p = or_parts (is_lf b) (has_lf (c ∷ line)) h in
    let q = or_parts (is_lf c) (has_lf line) p.1 in
    or_from ((b == 13) && (c == 10)) (has_crlf (c ∷ line)) (ap (λ x. (b == 13) && x) q.0 ∙ and_no (b == 13)) (no_lf_no_crlf (c ∷ line) p.1)
  where
    and_no : (x : Bool) → (x && false) ≡ false
    and_no true = refl
    and_no false = refl

-- ---- the line at the front

module _ (begun : Bool) (text : List ℕ) where
  -- no line of plain bytes stands at the front
  no_plain : ((line more : List ℕ) → list_all is_plain line ≡ true → text ≡ line ++ (crlf ++ more) → ⊥) → NoLine begun text
  no_plain never line more e = (
    false_from_ne_true (is_header line) (λ h. never line more (header_plain line h) e),
    λ some. false_from_ne_true (is_continuation line) (λ f. never line more (fold_plain line f) e),
  )

  -- a text without LF begins with no line of the headers
  pub none_lf : IsFirstByte (is_byte 10) text None → NoLine begun text
  none_lf none = no_plain (λ line more plain e.
      false≢true (sym (no_lf text none) ∙ ap (λ t. has_lf t) e ∙ ap (λ t. has_lf t) (sym (append_assoc line (13 ∷ []) (10 ∷ more))) ∙ lf_here (line ++ 13 ∷ []) more))

  -- the bytes before the first LF, where a line of plain bytes stands at the front
  before : (k : ℕ) → IsFirstByte (is_byte 10) text (Some k) → (line more : List ℕ) → list_all is_plain line ≡ true → text ≡ line ++ (crlf ++ more) → take k text ≡ line ++ 13 ∷ []
  before k found line more plain e =
      let cut = cut_lf text k found in
      (first_lf (take k text) (line ++ 13 ∷ []) (drop (k + 1) text) more cut.1 (cr_no_lf line (plain_no_lf line plain)) (sym cut.0 ∙ e ∙ sym (append_assoc line (13 ∷ []) (10 ∷ more)))).0

  -- a text whose first LF has no CR before it begins with no line of the headers
  pub none_cr : (k : ℕ) → IsFirstByte (is_byte 10) text (Some k) → (0 < k → get_or text (k - 1) 0 ≡ 13 → ⊥) → NoLine begun text
  none_cr k found other = no_plain (λ line more plain e.
      let low : k < length text = found.0.high in
      let size : k ≡ length line + 1 = sym (length-take k text ∙ omega arith) ∙ ap (λ t. length t) (before k found line more plain e) ∙ length-append line (13 ∷ []) in
      let at : k - 1 ≡ length line = omega arith in
      let byte : get_or text (k - 1) 0 ≡ 13 = (λ i. get_or (e i) (at i) 0) ∙ get_or_at line 13 (10 ∷ more) 0 (length line) refl in
      other (omega arith) byte)

  -- a CR stands before it
  module _ (k : ℕ) (found : IsFirstByte (is_byte 10) text (Some k)) (some : 0 < k) (cr : get_or text (k - 1) 0 ≡ 13) where
    whole : text ≡ take (k - 1) text ++ (crlf ++ drop (k - 1 + 2) text)
    whole =
        let cut = cut_lf text k found in
        let low : k < length text = found.0.high in
        let within : k - 1 < length text = omega arith in
        let one : k - 1 + 1 ≡ k = omega arith in
        let two : k + 1 ≡ k - 1 + 2 = omega arith in
        let front : take k text ≡ take (k - 1) text ++ 13 ∷ [] = ap (λ n. take n text) (sym one) ∙ take_more text (k - 1) 0 within ∙ ap (λ b. take (k - 1) text ++ b ∷ []) cr in
        cut.0 ∙ (λ i. front i ++ 10 ∷ drop (two i) text) ∙ append_assoc (take (k - 1) text) (13 ∷ []) (10 ∷ drop (k - 1 + 2) text)

    lone : has_crlf (take (k - 1) text) ≡ false
    lone =
        let cut = cut_lf text k found in
        let low : k < length text = found.0.high in
        let within : k - 1 < length text = omega arith in
        let one : k - 1 + 1 ≡ k = omega arith in
        let front : take k text ≡ take (k - 1) text ++ get_or text (k - 1) 0 ∷ [] = ap (λ n. take n text) (sym one) ∙ take_more text (k - 1) 0 within in
        no_lf_no_crlf (take (k - 1) text) (any_front (take (k - 1) text) (get_or text (k - 1) 0) (ap (λ t. has_lf t) (sym front) ∙ cut.1))
      where
        any_front : (line : List ℕ) (b : ℕ) → has_lf (line ++ b ∷ []) ≡ false → has_lf line ≡ false
        any_front [] b h = refl
        any_front (c ∷ line) b h = let p = or_parts (is_lf c) (has_lf (line ++ b ∷ [])) h in or_from _ _ p.0 (any_front line b p.1)

    -- a line before the first CR LF that belongs to the headers begins the text
    pub line_begins : belongs begun (take (k - 1) text) ≡ true → BeginsLine begun text (k - 1)
    line_begins is = let low : k < length text = found.0.high in record { within = omega arith; whole = whole; belongs = is }

    -- where the line before the first CR LF doesn't belong there, no line of the headers begins
    pub line_other : belongs begun (take (k - 1) text) ≡ false → NoLine begun text
    line_other other line more e =
        let same : list_all is_plain line ≡ true → take (k - 1) text ≡ line = λ plain. (first_crlf (take (k - 1) text) line (drop (k - 1 + 2) text) more lone plain (sym whole ∙ e)).0 in
        let p = or_parts (is_header (take (k - 1) text)) (begun && is_continuation (take (k - 1) text)) other in (
          false_from_ne_true (is_header line) (λ h. false≢true (sym p.0 ∙ ap is_header (same (header_plain line h)) ∙ h)),
          λ some. false_from_ne_true (is_continuation line) (λ f. false≢true (sym p.1 ∙ (λ i. some i && is_continuation (take (k - 1) text)) ∙ ap is_continuation (same (fold_plain line f)) ∙ f)),
        )

-- ---- a header more

folds_longer : (folds line : List ℕ) → IsFolded folds → is_continuation line ≡ true → IsFolded (folds ++ (crlf ++ line))
folds_longer _ line (last_fold last is) goes = one_fold last line is (last_fold line goes)
folds_longer _ line (one_fold first more is later) goes =
    subst IsFolded (sym (append_assoc first (crlf ++ more) (crlf ++ line))) (one_fold first (more ++ (crlf ++ line)) is (folds_longer more line later goes))

header_longer : (header line : List ℕ) → IsHeaderText header → is_continuation line ≡ true → IsHeaderText (header ++ (crlf ++ line))
header_longer _ line (unfolded first is) goes = folded first line is (last_fold line goes)
header_longer _ line (folded first more is later) goes =
    subst IsHeaderText (sym (append_assoc first (crlf ++ more) (crlf ++ line))) (folded first (more ++ (crlf ++ line)) is (folds_longer more line later goes))

record Longer (old new : List (List ℕ)) (line : List ℕ) : Type 0 where
  are : AreHeaders new
  text : text_of new ≡ text_of old ++ with_end line

pushed : (headers : List (List ℕ)) (line : List ℕ) → AreHeaders headers → is_header line ≡ true → Longer headers (headers ++ line ∷ []) line
pushed _ line no_headers is = record { are = one_header line [] (unfolded line is) no_headers; text = append-nil (with_end line) }
pushed _ line (one_header header headers a are) is =
    let rest = pushed headers line are is in
    record { are = one_header header (headers ++ line ∷ []) a rest.are; text = ap (λ t. with_end header ++ t) rest.text ∙ sym (append_assoc (with_end header) (text_of headers) (with_end line)) }

lengthened : (headers : List (List ℕ)) (line : List ℕ) → AreHeaders headers → is_some_line headers ≡ true → is_continuation line ≡ true → Longer headers (onto_last line headers) line
lengthened _ line no_headers some goes = absurd (false≢true some)
lengthened _ line (one_header header _ a no_headers) some goes = record { are = one_header (header ++ (crlf ++ line)) [] (header_longer header line a goes) no_headers; text = simp append_assoc }
lengthened _ line (one_header header _ a (one_header next headers b are)) some goes =
    let rest = lengthened (next ∷ headers) line (one_header next headers b are) refl goes in
    record { are = one_header header (onto_last line (next ∷ headers)) a rest.are; text = ap (λ t. with_end header ++ t) rest.text ∙ sym (append_assoc (with_end header) (text_of (next ∷ headers)) (with_end line)) }

added : (headers : List (List ℕ)) (line : List ℕ) → AreHeaders headers → belongs (is_some_line headers) line ≡ true → Longer headers (header_added line headers) line
added headers line are is =
    ⊎_elim
    (λ goes.
    let some : is_some_line headers ≡ true = ⊎_elim (λ h. absurd (not_both line h goes)) (λ both. (and_parts (is_some_line headers) (is_continuation line) both).0) (or_cases (is_header line) (is_some_line headers && is_continuation line) is) in
    subst (λ h. Longer headers h line) (sym (cond-true (is_continuation line) (onto_last line headers) (headers ++ line ∷ []) goes)) (lengthened headers line are some goes))
    (λ stops.
    let first : is_header line ≡ true = ⊎_elim (λ h. h) (λ both. absurd (false≢true (sym stops ∙ (and_parts (is_some_line headers) (is_continuation line) both).1))) (or_cases (is_header line) (is_some_line headers && is_continuation line) is) in
    subst (λ h. Longer headers h line) (sym (cond-false (is_continuation line) (onto_last line headers) (headers ++ line ∷ []) stops)) (pushed headers line are first))
    (cases_Bool (is_continuation line))

-- what was read so far is headers
pub record ReadsHeaders (text : List ℕ) (place : ℕ) (headers : List (List ℕ)) : Type 0 where
  pub within : place ≤ length text
  pub front : take place text ≡ text_of headers
  pub are : AreHeaders headers

-- no header is read of no bytes
pub reads_none : (text : List ℕ) → ReadsHeaders text 0 []
reads_none text = record { within = omega arith; front = refl; are = no_headers }

take_nothing : (n : ℕ) → take {A = ℕ} n [] ≡ []
take_nothing zero = refl
take_nothing (suc n) = refl

take_both : (i n : ℕ) (text : List ℕ) → take (i + n) text ≡ take i text ++ take n (drop i text)
take_both zero n text = let e : 0 + n ≡ n = omega arith in ap (λ k. take k text) e
take_both (suc i) n [] = let e : suc i + n ≡ suc (i + n) = omega arith in ap (λ k. take {A = ℕ} k []) e ∙ sym (take_nothing n)
take_both (suc i) n (b ∷ text) = let e : suc i + n ≡ suc (i + n) = omega arith in ap (λ k. take k (b ∷ text)) e ∙ ap (λ t. b ∷ t) (take_both i n text)

-- one line more, at the place behind the headers so far, is added to them
pub reads_more : (text : List ℕ) (place end : ℕ) (headers : List (List ℕ)) → ReadsHeaders text place headers → BeginsLine (is_some_line headers) (drop place text) end
    → ReadsHeaders text (place + (end + 2)) (header_added (take end (drop place text)) headers)
reads_more text place end headers reads begins =
    let rest = drop place text in
    let line = take end rest in
    let more = added headers line reads.are begins.belongs in
    let long : length rest ≡ length text - place = length-drop place text in
    let within = begins.within in
    let size : length line ≡ end = length-take end rest ∙ omega arith in
    let two : take (end + 2) rest ≡ with_end line = ap (take (end + 2)) begins.whole ∙ front_of line (drop (end + 2) rest) end size in
    record {
      within = omega (arith, long, within, reads.within);
      front = take_both place (end + 2) text ∙ (λ i. reads.front i ++ two i) ∙ sym more.text;
      are = more.are;
    }
  where
    front_of : (line more : List ℕ) (end : ℕ) → length line ≡ end → take (end + 2) (line ++ (crlf ++ more)) ≡ with_end line
    front_of line more end size = ap (λ n. take (n + 2) (line ++ (crlf ++ more))) (sym size) ∙ by_line line more
      where
        by_line : (line more : List ℕ) → take (length line + 2) (line ++ (crlf ++ more)) ≡ line ++ crlf
        by_line [] more = refl
        by_line (b ∷ line) more = let e : suc (length line) + 2 ≡ suc (length line + 2) = omega arith in ap (λ n. take n (b ∷ (line ++ (crlf ++ more)))) e ∙ ap (λ t. b ∷ t) (by_line line more)

-- ---- the body

-- fewer than two bytes behind the headers are all body
pub short_body : (rest : List ℕ) → length rest < 2 → IsBody rest rest
short_body [] low = at_once [] (λ more e. cc)
short_body (b ∷ []) low = at_once (b ∷ []) (λ more e. let t = tails b 13 [] (10 ∷ more) e in cc)
short_body (b ∷ c ∷ rest) low = absurd (omega arith)

-- where CR LF stands behind the headers, the body follows it
pub body_cut : (rest : List ℕ) → 2 ≤ length rest → slice_index rest 0 ≡ 13 → slice_index rest 1 ≡ 10 → IsBody rest (drop 2 rest)
body_cut [] low a b = absurd (omega arith)
body_cut (x ∷ []) low a b = absurd (omega arith)
body_cut (x ∷ y ∷ rest) low a b = subst (λ t. IsBody t rest) (λ i. sym a i ∷ sym b i ∷ rest) (behind_empty_line rest)

-- where no CR LF stands behind the headers, all that follows them is body
pub body_whole : (rest : List ℕ) → (slice_index rest 0 ≡ 13 → slice_index rest 1 ≡ 10 → ⊥) → IsBody rest rest
body_whole rest other = at_once rest (λ more e. other (ap (λ t. slice_index t 0) e) (ap (λ t. slice_index t 1) e))

-- a count above zero tells whether there is a header
pub some_is : (headers : List (List ℕ)) → nat_lt 0 (length headers) ≡ is_some_line headers
some_is [] = refl
some_is (header ∷ headers) = lt-ltb 0 (length (header ∷ headers)) (omega arith)

-- a number that isn't zero is above zero
pub positive : (n : ℕ) → (n ≡ 0 → ⊥) → 0 < n
positive zero never = absurd (never refl)
positive (suc n) never = omega arith
