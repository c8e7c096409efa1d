-- A step of the scan.
use Rattle.std.proofs.Common.{◌≡◌, ◌≢◌, ℕ, ◌+◌, ◌<◌, ◌≤◌, None, Bool, List, [], ◌∷◌, length, map, take, drop, get_or, Ok, Err, IfOk, true, refl, sym, ◌∙◌, ap, subst, arith}
use Rattle.std.proofs.lemmas.List.{length-take-le, length-drop, length-append, map-id, drop-drop, drop_more, drop_all}
use Rattle.std.proofs.lemmas.Bool.{false≢true}
use Rattle.addr_tokens.specs.declared.lexeme.Dollars.{Dollars}
use Rattle.addr_tokens.specs.declared.lexeme.Dollars.TheVariants.{Bytes, Typed, Side}
use Rattle.addr_tokens.specs.declared.lexeme.Lexeme.{Lexeme}
use Rattle.addr_tokens.specs.declared.fault.ScanFault.{ScanFault}
use Rattle.addr_tokens.specs.declared.fault.ScanFault.TheVariants.{Unbalanced, BadQuote, BadDollar, Long, NoMemory}
use Rattle.addr_tokens.specs.Scans.{AreLexemes, ExplainsFault}
use Rattle.addr_tokens.specs.declared.front.Front.{Front}
use Rattle.addr_tokens.specs.declared.front.Front.TheVariants as front
use Rattle.addr_tokens.specs.declared.construct.Construct.TheVariants as construct
use Rattle.addr_tokens.specs.Pieces.{Alphabet, alphabet_of, Piece, bytes_of, given_by, is_side, is_listed, is_construct_in, Construct, Single, Letter, Braced}
use Rattle.addr_tokens.specs.inner.Scanning.{At}
use Rattle.addr_tokens.specs.inner.Views.{piece_of, size_of, Suits}
use Rattle.addr_tokens.specs.Reader.{Answer, first_of, note_angle, with_lexemes, judge_on, judge_end, judged, gathered, outcome_on, outcome_of, reading_of}
use Rattle.addr_tokens.proofs.ReadingLemmas.{reading_more, reading_stop}
use Rattle.addr_tokens.proofs.OutcomeLemmas.{lexemes_of_answer, fault_of_answer}
use Rattle.addr_tokens.proofs.FirstLemmas.{IsFirst, FirstReads, first_read}

-- how many bytes the piece has
pub piece-length : (first : Front) (text : List ℕ) → size_of first ≤ length text → length (bytes_of (piece_of first text)) ≡ size_of first
piece-length front.White text le = refl
piece-length (front.Comment n) text le = length-take-le n text le
piece-length (front.Quotation n) text le = length-take-le n text le
piece-length (front.Operator b) text le = refl
piece-length (front.Dollar (construct.Single b)) text le = refl
piece-length (front.Dollar (construct.Letter b letter)) text le = refl
piece-length (front.Dollar (construct.Braced b n)) text le =
    let name = take n (drop 2 (drop 1 text)) in
    let within : n ≤ length (drop 2 (drop 1 text)) = omega (arith, length-drop 1 text, length-drop 2 (drop 1 text)) in
    omega (arith, length-append name (125 ∷ []), length-take-le n (drop 2 (drop 1 text)) within)
piece-length (front.Run n) text le = length-take-le n text le

-- a piece has a name in rules' sides alone
named_side : (dollars : Dollars) (operator : Bool) (found : Construct) → ((b : ℕ) → found ≡ Single b → ⊥) → is_construct_in dollars operator found ≡ true → is_side dollars ≡ true
named_side Bytes operator found named is = absurd (false≢true is)
named_side Typed operator (Single b) named is = absurd (named b refl)
named_side Typed operator (Letter b letter) named is = absurd (false≢true is)
named_side Typed operator (Braced b name) named is = absurd (false≢true is)
named_side Side operator found named is = refl

suits_by : (alphabet : Alphabet) (first : Front) (text rest after : List ℕ) → IsFirst alphabet text (piece_of first rest) after → Suits alphabet.dollars first
suits_by alphabet front.White text rest after is = tt
suits_by alphabet (front.Comment n) text rest after is = tt
suits_by alphabet (front.Quotation n) text rest after is = tt
suits_by alphabet (front.Operator b) text rest after is = tt
suits_by alphabet (front.Dollar (construct.Single b)) text rest after is = tt
suits_by alphabet (front.Dollar (construct.Letter b letter)) text rest after is = named_side alphabet.dollars (is_listed alphabet 36) (Letter b letter) (λ x e. cc e) is.is
suits_by alphabet (front.Dollar (construct.Braced b n)) text rest after is = named_side alphabet.dollars (is_listed alphabet 36) (Braced b (take n (drop 2 (drop 1 rest)))) (λ x e. cc e) is.is
suits_by alphabet (front.Run n) text rest after is = tt

module _ (alphabet : Alphabet) (angles : Bool) (place : ℕ) (lefts rest : List ℕ) (some : 0 < length rest) where
  parts : rest ≡ get_or rest 0 0 ∷ drop 1 rest
  parts = drop_more rest 0 0 some

  first_stops : (fault : ScanFault) → first_of alphabet place (get_or rest 0 0) (drop 1 rest) ≡ Err fault → outcome_on alphabet angles place lefts rest ≡ Err fault
  first_stops fault is =
      ap (λ r. judged alphabet.dollars angles place lefts r.pieces r.fault) (ap (reading_of alphabet place) parts ∙ reading_stop alphabet place (get_or rest 0 0) (drop 1 rest) fault is)

  module _ (piece : Piece) (after : List ℕ) (is : first_of alphabet place (get_or rest 0 0) (drop 1 rest) ≡ Ok (piece, after)) where
    more : outcome_on alphabet angles place lefts rest ≡ judge_on (λ l. outcome_on alphabet angles (place + length (bytes_of piece)) l after) (given_by alphabet.dollars piece) (note_angle angles place lefts piece)
    more = ap (λ r. judged alphabet.dollars angles place lefts r.pieces r.fault) (ap (reading_of alphabet place) parts ∙ reading_more alphabet place (get_or rest 0 0) (drop 1 rest) piece after is)

    note_stops : (fault : ScanFault) → note_angle angles place lefts piece ≡ Err fault → outcome_on alphabet angles place lefts rest ≡ Err fault
    note_stops fault noted = more ∙ ap (judge_on (λ l. outcome_on alphabet angles (place + length (bytes_of piece)) l after) (given_by alphabet.dollars piece)) noted

    goes_on : (now : List ℕ) → note_angle angles place lefts piece ≡ Ok now → outcome_on alphabet angles place lefts rest ≡ with_lexemes (given_by alphabet.dollars piece) (outcome_on alphabet angles (place + length (bytes_of piece)) now after)
    goes_on now noted = more ∙ ap (judge_on (λ l. outcome_on alphabet angles (place + length (bytes_of piece)) l after) (given_by alphabet.dollars piece)) noted

module _ (alphabet : Alphabet) (angles : Bool) (text : List ℕ) (checked : Bool) (place : ℕ) (lefts : List ℕ) (is_long : Bool) (lexemes : List Lexeme)
    (so : At alphabet angles text checked place lefts is_long lexemes) (part : List ℕ) (is : part ≡ drop place text) (more : place < length text) where
  some_left : 0 < length part
  some_left = omega (arith, ap length is, length-drop place text)

  on_part : gathered is_long lexemes (outcome_on alphabet checked place lefts part) ≡ outcome_of alphabet angles text
  on_part = ap (λ x. gathered is_long lexemes (outcome_on alphabet checked place lefts x)) is ∙ so.outcome

  -- a fault of the first piece of the rest is one of the text
  pub front_fails : (fault : ScanFault) → first_of alphabet place (get_or part 0 0) (drop 1 part) ≡ Err fault → ExplainsFault alphabet angles text fault
  front_fails fault first = fault_of_answer alphabet angles text fault (sym on_part ∙ ap (gathered is_long lexemes) (first_stops alphabet checked place lefts part some_left fault first))

  module _ (front : Front) (within : size_of front ≤ length part) (first : first_of alphabet place (get_or part 0 0) (drop 1 part) ≡ Ok (piece_of front part, drop (size_of front) part)) where
    -- a piece that is read under an alphabet is one that it can give
    pub suits : Suits alphabet.dollars front
    suits =
        suits_by alphabet front (get_or part 0 0 ∷ drop 1 part) part (drop (size_of front) part)
        (subst (FirstReads alphabet place (get_or part 0 0 ∷ drop 1 part)) first (first_read alphabet place (get_or part 0 0) (drop 1 part)))

    angle_stops : (fault : ScanFault) → note_angle checked place lefts (piece_of front part) ≡ Err fault → ExplainsFault alphabet angles text fault
    angle_stops fault noted = fault_of_answer alphabet angles text fault (sym on_part ∙ ap (gathered is_long lexemes) (note_stops alphabet checked place lefts part some_left _ _ first fault noted))

    -- a fault of an angle bracket at its place is one of the text
    pub angle_fails : (fault : ScanFault) → (fault ≢ NoMemory → note_angle checked place lefts (piece_of front part) ≡ Err fault) → ExplainsFault alphabet angles text fault
    angle_fails (Unbalanced n) noted = angle_stops (Unbalanced n) (noted (λ e. cc e))
    angle_fails (BadQuote n) noted = angle_stops (BadQuote n) (noted (λ e. cc e))
    angle_fails (BadDollar n) noted = angle_stops (BadDollar n) (noted (λ e. cc e))
    angle_fails Long noted = angle_stops Long (noted (λ e. cc e))
    angle_fails NoMemory noted = tt

    -- behind the first piece of the rest the scan stands where the text's outcome is still the same
    pub at_next : (now : List ℕ) (now_long : Bool) (now_lexemes : List Lexeme) → note_angle checked place lefts (piece_of front part) ≡ Ok now
        → ((answer : Answer) → gathered now_long now_lexemes answer ≡ gathered is_long lexemes (with_lexemes (given_by alphabet.dollars (piece_of front part)) answer))
        → At alphabet angles text checked (place + size_of front) now now_long now_lexemes
    at_next now now_long now_lexemes noted adds =
        let size = piece-length front part within in
        let rest : drop (size_of front) part ≡ drop (place + size_of front) text = ap (drop (size_of front)) is ∙ drop-drop (size_of front) place text in
        record {
          within = omega (arith, ap length is, length-drop place text);
          outcome =
              ap (λ x. gathered now_long now_lexemes (outcome_on alphabet checked (place + size_of front) now x)) (sym rest)
              ∙ ap (λ n. gathered now_long now_lexemes (outcome_on alphabet checked (place + n) now (drop (size_of front) part))) (sym size)
              ∙ adds _ ∙ ap (gathered is_long lexemes) (sym (goes_on alphabet checked place lefts part some_left _ _ first now noted)) ∙ on_part;
        }

-- at the end of the text
module _ (alphabet : Alphabet) (angles : Bool) (text : List ℕ) (checked : Bool) (place : ℕ) (lefts : List ℕ) (is_long : Bool) (lexemes : List Lexeme)
    (so : At alphabet angles text checked place lefts is_long lexemes) (all : length text ≤ place) where
  at_end : gathered is_long lexemes (judge_end lefts None) ≡ outcome_of alphabet angles text
  at_end = ap (λ x. gathered is_long lexemes (outcome_on alphabet checked place lefts x)) (sym (drop_all place text all)) ∙ so.outcome

  -- a fault at the end, for an open angle bracket or for too many tokens, is one of the text
  pub all_fails : (fault : ScanFault) → gathered is_long lexemes (judge_end lefts None) ≡ Err fault → ExplainsFault alphabet angles text fault
  all_fails fault gives = fault_of_answer alphabet angles text fault (sym at_end ∙ gives)

  -- what is gathered at the end is the text's lexemes
  pub all_lexemes : (answer : List Lexeme) → gathered is_long lexemes (judge_end lefts None) ≡ Ok answer → AreLexemes alphabet angles text answer
  all_lexemes answer gives = lexemes_of_answer alphabet angles text answer (sym at_end ∙ gives)

-- lexemes that are seen as they are
pub seen_lexemes : (angles : Bool) (part text some operators : List ℕ) (result : Answer) → part ≡ text → some ≡ operators
    → IfOk result (λ given. AreLexemes (alphabet_of some Side) angles part (map (λ lexeme. lexeme) given)) → IfOk result (λ lexemes. AreLexemes (alphabet_of operators Side) angles text lexemes)
seen_lexemes angles part text some operators (Ok lexemes) is same so =
    subst (AreLexemes (alphabet_of operators Side) angles text) (map-id lexemes)
    (subst (λ x. AreLexemes (alphabet_of operators Side) angles x (map (λ lexeme. lexeme) lexemes)) is
    (subst (λ o. AreLexemes (alphabet_of o Side) angles part (map (λ lexeme. lexeme) lexemes)) same so))
seen_lexemes angles part text some operators (Err fault) is same so = tt
