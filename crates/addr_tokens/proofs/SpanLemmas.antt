-- The pieces of a text with their places.
use Rattle.std.proofs.Common.{◌≡◌, ◌≢◌, ℕ, ◌+◌, ◌<◌, ◌≤◌, nat_le, Bool, true, false, cond, List, [], ◌∷◌, ◌++◌, length, drop, get_or, None, Result, Ok, Err, refl, sym, ◌∙◌, ap, subst, arith}
use Rattle.std.proofs.lemmas.List.{append_assoc, append-nil, length-drop, drop-drop, drop_more, drop_all}
use Rattle.addr_tokens.specs.declared.fault.ScanFault.{ScanFault}
use Rattle.addr_tokens.specs.declared.fault.ScanFault.TheVariants.{Unbalanced, BadQuote, BadDollar, Long, NoMemory}
use Rattle.addr_tokens.specs.declared.lexeme.Lexeme.{Lexeme}
use Rattle.addr_tokens.specs.declared.span.PieceKind.{PieceKind}
use Rattle.addr_tokens.specs.declared.span.PieceSpan.{PieceSpan}
use Rattle.addr_tokens.specs.declared.front.Front.{Front}
use Rattle.addr_tokens.specs.Pieces.{Alphabet, Piece, bytes_of, given_by, lexemes_of, Cuts}
use Rattle.addr_tokens.specs.Scans.{most_tokens, Stops, closing, opening, opening_ended, backslash, quote, quote_ended, quoted_control, escaped_control, dollar, AreBalanced, HasFault, stops, right_angle, left_angle, long}
use Rattle.addr_tokens.specs.Reader.{Answer, reading_of, first_of, note_angle, with_lexemes, judge_on, judge_end, judged, gathered, outcome_on}
use Rattle.addr_tokens.specs.Spans.{kind_of, span_at, spans_from, spans_if, spans_on, spans_or_fault, AreSpans, ExplainsUncut}
use Rattle.addr_tokens.specs.inner.Spanning.{behind, SpansAt}
use Rattle.addr_tokens.specs.inner.Views.{piece_of, size_of}
use Rattle.addr_tokens.proofs.ReadingLemmas.{reading_more, reading_stop}
use Rattle.addr_tokens.proofs.OutcomeLemmas.{whole_reading, balanced_judged, Means, answer_means, fault_answered}
use Rattle.addr_tokens.proofs.ScanLemmas.{piece-length}

-- ---- a step

abbrev span_of : PieceKind → ℕ → ℕ → PieceSpan
span_of kind place n = record { kind = kind; start = place; length = n }

-- a piece before others, where its lexemes stand before theirs
one_more : (span : PieceSpan) (spans : List PieceSpan) (lexemes : List Lexeme) (answer : Answer) → spans_if (span ∷ spans) (with_lexemes lexemes answer) ≡ behind (span ∷ []) (spans_if spans answer)
one_more span spans lexemes (Ok more) = refl
one_more span spans lexemes (Err fault) = refl

behind_both : (one other : List PieceSpan) (result : Result (List PieceSpan) ScanFault) → behind (one ++ other) result ≡ behind one (behind other result)
behind_both one other (Ok more) = ap Ok (append_assoc one other more)
behind_both one other (Err fault) = refl

module _ (alphabet : Alphabet) (angles : Bool) (place : ℕ) (lefts rest : List ℕ) (some : 0 < length rest) where
  parts : rest ≡ get_or rest 0 0 ∷ drop 1 rest
  parts = drop_more rest 0 0 some

  first_stops : (fault : ScanFault) → first_of alphabet place (get_or rest 0 0) (drop 1 rest) ≡ Err fault → spans_on alphabet angles place lefts rest ≡ Err fault
  first_stops fault is =
      ap (λ r. spans_if (spans_from place r.pieces) (judged alphabet.dollars angles place lefts r.pieces r.fault))
      (ap (reading_of alphabet place) parts ∙ reading_stop alphabet place (get_or rest 0 0) (drop 1 rest) fault is)

  module _ (piece : Piece) (after : List ℕ) (is : first_of alphabet place (get_or rest 0 0) (drop 1 rest) ≡ Ok (piece, after)) where
    more : spans_on alphabet angles place lefts rest
        ≡ spans_if (spans_from place (piece ∷ (reading_of alphabet (place + length (bytes_of piece)) after).pieces))
        (judge_on (λ l. outcome_on alphabet angles (place + length (bytes_of piece)) l after) (given_by alphabet.dollars piece) (note_angle angles place lefts piece))
    more =
        ap (λ r. spans_if (spans_from place r.pieces) (judged alphabet.dollars angles place lefts r.pieces r.fault))
        (ap (reading_of alphabet place) parts ∙ reading_more alphabet place (get_or rest 0 0) (drop 1 rest) piece after is)

    note_stops : (fault : ScanFault) → note_angle angles place lefts piece ≡ Err fault → spans_on alphabet angles place lefts rest ≡ Err fault
    note_stops fault noted =
        more ∙ ap (λ n. spans_if (spans_from place (piece ∷ (reading_of alphabet (place + length (bytes_of piece)) after).pieces))
        (judge_on (λ l. outcome_on alphabet angles (place + length (bytes_of piece)) l after) (given_by alphabet.dollars piece) n)) noted

    goes_on : (now : List ℕ) → note_angle angles place lefts piece ≡ Ok now
        → spans_on alphabet angles place lefts rest ≡ behind (span_at place piece ∷ []) (spans_on alphabet angles (place + length (bytes_of piece)) now after)
    goes_on now noted =
        more ∙ ap (λ n. spans_if (spans_from place (piece ∷ (reading_of alphabet (place + length (bytes_of piece)) after).pieces))
        (judge_on (λ l. outcome_on alphabet angles (place + length (bytes_of piece)) l after) (given_by alphabet.dollars piece) n)) noted
        ∙ one_more (span_at place piece) (spans_from (place + length (bytes_of piece)) (reading_of alphabet (place + length (bytes_of piece)) after).pieces)
        (given_by alphabet.dollars piece) (outcome_on alphabet angles (place + length (bytes_of piece)) now after)

module _ (alphabet : Alphabet) (angles : Bool) (text : List ℕ) (checked : Bool) (place : ℕ) (lefts : List ℕ) (spans : List PieceSpan)
    (so : SpansAt alphabet angles text checked place lefts spans) (part : List ℕ) (is : part ≡ drop place text) (more : place < length text) where
  some_left : 0 < length part
  some_left = omega (arith, ap length is, length-drop place text)

  on_part : behind spans (spans_on alphabet checked place lefts part) ≡ spans_or_fault alphabet angles text
  on_part = ap (λ x. behind spans (spans_on alphabet checked place lefts x)) is ∙ so.outcome

  -- a fault of the first piece of the rest is one of the text
  pub front_fails : (fault : ScanFault) → first_of alphabet place (get_or part 0 0) (drop 1 part) ≡ Err fault → spans_or_fault alphabet angles text ≡ Err fault
  front_fails fault first = sym on_part ∙ ap (behind spans) (first_stops alphabet checked place lefts part some_left fault first)

  module _ (front : Front) (within : size_of front ≤ length part) (first : first_of alphabet place (get_or part 0 0) (drop 1 part) ≡ Ok (piece_of front part, drop (size_of front) part)) where
    -- a fault of an angle bracket at its place is one of the text
    pub angle_fails : (fault : ScanFault) → note_angle checked place lefts (piece_of front part) ≡ Err fault → spans_or_fault alphabet angles text ≡ Err fault
    angle_fails fault noted = sym on_part ∙ ap (behind spans) (note_stops alphabet checked place lefts part some_left _ _ first fault noted)

    -- behind the first piece of the rest the text's pieces are still the same
    pub at_next : (now : List ℕ) (span : PieceSpan) → note_angle checked place lefts (piece_of front part) ≡ Ok now → span ≡ span_at place (piece_of front part)
        → SpansAt alphabet angles text checked (place + size_of front) now (spans ++ span ∷ [])
    at_next now span noted added =
        let size = piece-length front part within in
        let rest : drop (size_of front) part ≡ drop (place + size_of front) text = ap (drop (size_of front)) is ∙ drop-drop (size_of front) place text in
        record {
          within = omega (arith, ap length is, length-drop place text);
          outcome =
              ap (λ s. behind (spans ++ s ∷ []) (spans_on alphabet checked (place + size_of front) now (drop (place + size_of front) text))) added
              ∙ ap (λ x. behind (spans ++ span_at place (piece_of front part) ∷ []) (spans_on alphabet checked (place + size_of front) now x)) (sym rest)
              ∙ ap (λ n. behind (spans ++ span_at place (piece_of front part) ∷ []) (spans_on alphabet checked (place + n) now (drop (size_of front) part))) (sym size)
              ∙ behind_both spans (span_at place (piece_of front part) ∷ []) _
              ∙ ap (behind spans) (sym (goes_on alphabet checked place lefts part some_left _ _ first now noted)) ∙ on_part;
        }

-- what is added for a piece that is told
pub span_is : (place : ℕ) (front : Front) (part : List ℕ) (kind : PieceKind) (n : ℕ) → kind ≡ kind_of (piece_of front part) → n ≡ size_of front → size_of front ≤ length part
    → record { kind = kind; start = place; length = n } ≡ span_at place (piece_of front part)
span_is place front part kind n same size within =
    ap (λ k. span_of k place n) same ∙ ap (span_of (kind_of (piece_of front part)) place) (size ∙ sym (piece-length front part within))

-- at the end of the text
module _ (alphabet : Alphabet) (angles : Bool) (text : List ℕ) (checked : Bool) (place : ℕ) (lefts : List ℕ) (spans : List PieceSpan)
    (so : SpansAt alphabet angles text checked place lefts spans) (all : length text ≤ place) where
  at_end : behind spans (spans_if [] (judge_end lefts None)) ≡ spans_or_fault alphabet angles text
  at_end = ap (λ x. behind spans (spans_on alphabet checked place lefts x)) (sym (drop_all place text all)) ∙ so.outcome

  -- an open angle bracket at the end is a fault of the text
  pub end_fails : (fault : ScanFault) → judge_end lefts None ≡ Err fault → spans_or_fault alphabet angles text ≡ Err fault
  end_fails fault gives = sym at_end ∙ ap (λ a. behind spans (spans_if [] a)) gives

  -- what is there at the end are the text's pieces
  pub end_spans : judge_end lefts None ≡ Ok [] → spans_or_fault alphabet angles text ≡ Ok spans
  end_spans gives = sym at_end ∙ ap (λ a. behind spans (spans_if [] a)) gives ∙ ap Ok (append-nil spans)

-- ---- what is computed is so

ok_judged : (spans answered : List PieceSpan) (answer : Answer) (P : Type 0) → spans_if spans answer ≡ Ok answered → ((lexemes : List Lexeme) → answer ≡ Ok lexemes → spans ≡ answered → P) → P
ok_judged spans answered (Ok lexemes) P is go = go lexemes refl (cc is)
ok_judged spans answered (Err fault) P is go = absurd (cc is)

err_judged : (spans : List PieceSpan) (answer : Answer) (fault : ScanFault) → spans_if spans answer ≡ Err fault → answer ≡ Err fault
err_judged spans (Ok lexemes) fault is = absurd (cc is)
err_judged spans (Err other) fault is = ap Err (cc is)

module _ (alphabet : Alphabet) (angles : Bool) (text : List ℕ) where
  -- the text has a cutting, and its angles are balanced where these are asked for
  record IsCut : Type 0 where
    pub pieces : List Piece
    pub cut : Cuts alphabet text pieces
    pub balanced : AreBalanced angles (lexemes_of alphabet.dollars pieces)

  cut_spans : (c : IsCut) → spans_or_fault alphabet angles text ≡ Ok (spans_from 0 c.pieces)
  cut_spans c =
      ap (λ r. spans_if (spans_from 0 r.pieces) (judged alphabet.dollars angles 0 [] r.pieces r.fault)) (whole_reading alphabet text c.pieces c.cut)
      ∙ ap (spans_if (spans_from 0 c.pieces)) (balanced_judged alphabet angles c.pieces c.balanced)

  -- the pieces of a cutting are what is computed
  pub spans_answered : (spans : List PieceSpan) → AreSpans alphabet angles text spans → spans_or_fault alphabet angles text ≡ Ok spans
  spans_answered spans a = cut_spans (record { pieces = a.pieces; cut = a.cut; balanced = a.balanced }) ∙ ap Ok a.spans_are

stop_long : (alphabet : Alphabet) (text : List ℕ) (place : ℕ) (fault : ScanFault) → Stops alphabet text place fault → fault ≡ Long → ⊥
stop_long alphabet _ _ _ (closing after place) e = cc e
stop_long alphabet _ _ _ (opening inside place is) e = cc e
stop_long alphabet _ _ _ (opening_ended inside place is) e = cc e
stop_long alphabet _ _ _ (backslash place) e = cc e
stop_long alphabet _ _ _ (quote inside place is) e = cc e
stop_long alphabet _ _ _ (quote_ended inside place is) e = cc e
stop_long alphabet _ _ _ (quoted_control inside b after place is c) e = cc e
stop_long alphabet _ _ _ (escaped_control inside b after place is c) e = cc e
stop_long alphabet _ _ _ (dollar after place none) e = cc e

-- a text with too many tokens has a cutting
long_cut : (alphabet : Alphabet) (angles : Bool) (text : List ℕ) (fault : ScanFault) → HasFault alphabet angles text fault → fault ≡ Long → IsCut alphabet angles text
long_cut alphabet angles _ _ (stops front rest pieces fault cut goes stop) e = absurd (stop_long alphabet rest _ fault stop e)
long_cut alphabet angles _ _ (right_angle front after pieces checked cut closed) e = absurd (cc e)
long_cut alphabet angles _ _ (left_angle text pieces more checked cut goes closed) e = absurd (cc e)
long_cut alphabet angles _ _ (long text pieces cut balanced many) e = record { pieces = pieces; cut = cut; balanced = balanced }

module _ (alphabet : Alphabet) (angles : Bool) (text : List ℕ) where
  means_cut : (lexemes : List Lexeme) (short : Bool) → Means alphabet angles text (cond short (Ok lexemes) (Err Long)) → IsCut alphabet angles text
  means_cut lexemes true a = record { pieces = a.pieces; cut = a.cut; balanced = subst (AreBalanced angles) (sym a.lexemes_are) a.balanced }
  means_cut lexemes false has = long_cut alphabet angles text Long has refl

  judged_cut : (lexemes : List Lexeme) → outcome_on alphabet angles 0 [] text ≡ Ok lexemes → IsCut alphabet angles text
  judged_cut lexemes is = means_cut lexemes (nat_le (length lexemes) most_tokens) (subst (Means alphabet angles text) (ap (gathered false []) is) (answer_means alphabet angles text))

  -- the pieces that are computed are those of a cutting
  pub spans_of_answer : (spans : List PieceSpan) → spans_or_fault alphabet angles text ≡ Ok spans → AreSpans alphabet angles text spans
  spans_of_answer spans is =
      ok_judged _ spans (outcome_on alphabet angles 0 [] text) (AreSpans alphabet angles text spans) is
      (λ lexemes judged_is same.
      let c = judged_cut lexemes judged_is in
      let e : Ok (spans_from 0 c.pieces) ≡ Ok spans = sym (cut_spans alphabet angles text c) ∙ is in
      record { pieces = c.pieces; cut = c.cut; balanced = c.balanced; spans_are = cc e })

  -- the fault that is computed is the text's
  pub uncut_of_answer : (fault : ScanFault) → spans_or_fault alphabet angles text ≡ Err fault → HasFault alphabet angles text fault
  uncut_of_answer fault is = subst (Means alphabet angles text) (ap (gathered false []) (err_judged _ (outcome_on alphabet angles 0 [] text) fault is)) (answer_means alphabet angles text)

  never_long : spans_or_fault alphabet angles text ≡ Err Long → ⊥
  never_long is =
      let c = long_cut alphabet angles text Long (uncut_of_answer Long is) refl in
      let e : Ok (spans_from 0 c.pieces) ≡ Err Long = sym (cut_spans alphabet angles text c) ∙ is in
      cc e

  faults_by : (spans : List PieceSpan) (answer : Answer) (fault : ScanFault) → fault ≢ Long → (short : Bool) (lexemes : List Lexeme) → answer ≡ Ok lexemes → cond short (Ok lexemes) (Err Long) ≡ Err fault → spans_if spans answer ≡ Err fault
  faults_by spans answer fault other true lexemes is e = absurd (cc e)
  faults_by spans answer fault other false lexemes is e = absurd (other (cc e))

  faults_in : (spans : List PieceSpan) (answer : Answer) (fault : ScanFault) → fault ≢ Long → gathered false [] answer ≡ Err fault → spans_if spans answer ≡ Err fault
  faults_in spans (Err found) fault other e = ap Err (cc e)
  faults_in spans (Ok lexemes) fault other e = faults_by spans (Ok lexemes) fault other (nat_le (length lexemes) most_tokens) lexemes refl e

  -- a fault of the text is computed, but that its tokens are many
  pub uncut_answered : (fault : ScanFault) → fault ≢ Long → HasFault alphabet angles text fault → spans_or_fault alphabet angles text ≡ Err fault
  uncut_answered fault other has = faults_in _ (outcome_on alphabet angles 0 [] text) fault other (fault_answered alphabet angles text fault has)

  -- the fault that is computed explains itself
  pub uncut_explained : (fault : ScanFault) → (fault ≢ NoMemory → spans_or_fault alphabet angles text ≡ Err fault) → ExplainsUncut alphabet angles text fault
  uncut_explained (Unbalanced n) is = uncut_of_answer (Unbalanced n) (is (λ e. cc e))
  uncut_explained (BadQuote n) is = uncut_of_answer (BadQuote n) (is (λ e. cc e))
  uncut_explained (BadDollar n) is = uncut_of_answer (BadDollar n) (is (λ e. cc e))
  uncut_explained Long is = never_long (is (λ e. cc e))
  uncut_explained NoMemory is = tt
