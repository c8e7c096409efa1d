-- The pieces of a text, one after another.
use Rattle.std.proofs.Common.{◌≡◌, ℕ, zero, suc, ◌+◌, ◌<◌, ◌≤◌, true, false, List, [], ◌∷◌, ◌++◌, length, Option, Some, None, Ok, Err, refl, sym, ◌∙◌, ap, subst, arith}
use Rattle.std.proofs.lemmas.Bool.{cond-false, and_left, and_right, not_from_true, or_from, ne_eqb, false≢true}
use Rattle.std.proofs.lemmas.List.{append_assoc, length-append}
use Rattle.std.specs.List.{flat_map}
use Rattle.addr_tokens.specs.declared.fault.ScanFault.{ScanFault}
use Rattle.mail_base.specs.Whites.{is_white}
use Rattle.addr_tokens.specs.Pieces.{Alphabet, Construct, IsPiece, ArePieces, Piece, White, Comment, Quotation, Operator, Dollar, Run, bytes_of, after_dollar, are_apart, CutsBefore, is_listed, is_operator, is_construct, is_word_byte}
use Rattle.addr_tokens.specs.Scans.{Stops, closing, opening, opening_ended, backslash, quote, quote_ended, quoted_control, escaped_control, dollar}
use Rattle.addr_tokens.specs.Reader.{First, first_of, Reading, with_piece, read_on, reading_by, reading_of, takes_next, past_word}
use Rattle.addr_tokens.proofs.WordLemmas.{NoWord, word_parts, takes_none, past_word-append}
use Rattle.addr_tokens.proofs.ConstructLemmas.{construct_begins, construct_apart}
use Rattle.addr_tokens.proofs.FirstLemmas.{IsFirst, FirstReads, Follows, first_read, first_on, first_is, stop_is, piece_some, past-length}

-- a stop has a byte
stop_length : (alphabet : Alphabet) (text : List ℕ) (place : ℕ) (fault : ScanFault) → Stops alphabet text place fault → text ≡ [] → ⊥
stop_length alphabet _ _ _ (closing after place) e = cc e
stop_length alphabet _ _ _ (opening inside place is) e = cc e
stop_length alphabet _ _ _ (opening_ended inside place is) e = cc e
stop_length alphabet _ _ _ (backslash place) e = cc e
stop_length alphabet _ _ _ (quote inside place is) e = cc e
stop_length alphabet _ _ _ (quote_ended inside place is) e = cc e
stop_length alphabet _ _ _ (quoted_control inside b after place is c) e = cc e
stop_length alphabet _ _ _ (escaped_control inside b after place is c) e = cc e
stop_length alphabet _ _ _ (dollar after place none) e = cc e

module _ (alphabet : Alphabet) where
  nothing_left : (n m place : ℕ) → reading_by n alphabet place [] ≡ reading_by m alphabet place []
  nothing_left zero zero place = refl
  nothing_left zero (suc m) place = refl
  nothing_left (suc n) zero place = refl
  nothing_left (suc n) (suc m) place = refl

  shorter : (text : List ℕ) (piece : Piece) (rest : List ℕ) → IsFirst alphabet text piece rest → length rest < length text
  shorter text piece rest is = omega (arith, ap length is.whole, length-append (bytes_of piece) rest, piece_some alphabet piece rest is.is)

  enough_after : (n m place : ℕ) (text : List ℕ) (first : First) → FirstReads alphabet place text first → length text ≤ suc n → length text ≤ suc m
      → ((p : ℕ) (rest : List ℕ) → length rest ≤ n → length rest ≤ m → reading_by n alphabet p rest ≡ reading_by m alphabet p rest)
      → read_on (reading_by n alphabet) place first ≡ read_on (reading_by m alphabet) place first
  enough_after n m place text (Ok first) is a b go =
      let less = shorter text first.0 first.1 is in
      ap (with_piece first.0) (go (place + length (bytes_of first.0)) first.1 (omega arith) (omega arith))
  enough_after n m place text (Err fault) is a b go = refl

  -- how many pieces there may be at most makes no difference
  enough : (n m place : ℕ) (text : List ℕ) → length text ≤ n → length text ≤ m → reading_by n alphabet place text ≡ reading_by m alphabet place text
  enough n m place [] a b = nothing_left n m place
  enough zero m place (x ∷ xs) a b = absurd (omega arith)
  enough (suc n) zero place (x ∷ xs) a b = absurd (omega arith)
  enough (suc n) (suc m) place (x ∷ xs) a b =
      enough_after n m place (x ∷ xs) (first_of alphabet place x xs) (first_read alphabet place x xs) a b (λ p text c d. enough n m p text c d)

  -- a piece, and the reading of what is behind it
  pub reading_more : (place b : ℕ) (bs : List ℕ) (piece : Piece) (rest : List ℕ) → first_of alphabet place b bs ≡ Ok (piece, rest)
      → reading_of alphabet place (b ∷ bs) ≡ with_piece piece (reading_of alphabet (place + length (bytes_of piece)) rest)
  reading_more place b bs piece rest is =
      let first : IsFirst alphabet (b ∷ bs) piece rest = subst (FirstReads alphabet place (b ∷ bs)) is (first_read alphabet place b bs) in
      let less = shorter (b ∷ bs) piece rest first in
      enough (length (b ∷ bs)) (suc (length bs)) place (b ∷ bs) (omega arith) (omega arith)
      ∙ ap (read_on (reading_by (length bs) alphabet) place) is
      ∙ ap (with_piece piece) (enough (length bs) (length rest) (place + length (bytes_of piece)) rest (omega arith) (omega arith))

  -- where the first piece is refused, the reading ends with that fault
  pub reading_stop : (place b : ℕ) (bs : List ℕ) (fault : ScanFault) → first_of alphabet place b bs ≡ Err fault
      → reading_of alphabet place (b ∷ bs) ≡ record { pieces = []; fault = Some fault }
  reading_stop place b bs fault is =
      enough (length (b ∷ bs)) (suc (length bs)) place (b ∷ bs) (omega arith) (omega arith)
      ∙ ap (read_on (reading_by (length bs) alphabet) place) is

  -- what is behind the pieces
  abbrev pub IsEnd : Option ScanFault → ℕ → List ℕ → Type 0
  IsEnd None place rest = rest ≡ []
  IsEnd (Some fault) place rest = Stops alphabet rest place fault

  pub record Reads (place : ℕ) (text : List ℕ) (reading : Reading) : Type 0 where
    pub front : List ℕ
    pub rest : List ℕ
    pub whole : text ≡ front ++ rest
    pub cut : CutsBefore alphabet rest front reading.pieces
    pub ends : IsEnd reading.fault (place + length front) rest

  -- a word follows no word
  apart_more : (piece : Piece) (pieces : List Piece) (rest : List ℕ) → Follows alphabet piece (flat_map bytes_of pieces ++ rest) → ArePieces alphabet pieces rest → are_apart pieces ≡ true → are_apart (piece ∷ pieces) ≡ true
  apart_more (White b) pieces rest follows each apart = apart
  apart_more (Comment bytes) pieces rest follows each apart = apart
  apart_more (Quotation bytes) pieces rest follows each apart = apart
  apart_more (Operator b) pieces rest follows each apart = apart
  apart_more (Dollar c) pieces rest follows each apart = apart
  apart_more (Run bytes) [] rest follows each apart = refl
  apart_more (Run bytes) (White b ∷ pieces) rest follows each apart = apart
  apart_more (Run bytes) (Comment inside ∷ pieces) rest follows each apart = apart
  apart_more (Run bytes) (Quotation inside ∷ pieces) rest follows each apart = apart
  apart_more (Run bytes) (Operator b ∷ pieces) rest follows each apart = apart
  apart_more (Run bytes) (Dollar c ∷ pieces) rest follows each apart = apart
  apart_more (Run bytes) (Run word ∷ pieces) rest follows each apart =
      let later = flat_map bytes_of pieces ++ rest in
      let whole : (word ++ flat_map bytes_of pieces) ++ rest ≡ word ++ later = append_assoc word (flat_map bytes_of pieces) rest in
      let same : word ++ later ≡ past_word alphabet false later = sym whole ∙ sym follows.stays ∙ ap (past_word alphabet false) whole ∙ past_word-append alphabet word later each.0.is in
      absurd (omega (arith, ap length same, length-append word later, past-length alphabet later, piece_some alphabet (Run word) later each.0))

  with_first : (place : ℕ) (text : List ℕ) (piece : Piece) (rest : List ℕ) (reading : Reading) → IsFirst alphabet text piece rest → Reads (place + length (bytes_of piece)) rest reading → Reads place text (with_piece piece reading)
  with_first place text piece rest reading is r =
      let e : place + length (bytes_of piece) + length r.front ≡ place + length (bytes_of piece ++ r.front) = omega (arith, length-append (bytes_of piece) r.front) in
      record {
        front = bytes_of piece ++ r.front;
        rest = r.rest;
        whole = is.whole ∙ ap (λ x. bytes_of piece ++ x) r.whole ∙ sym (append_assoc (bytes_of piece) r.front r.rest);
        cut = record {
          whole = ap (λ x. bytes_of piece ++ x) r.cut.whole;
          each = (subst (IsPiece alphabet piece) (r.whole ∙ ap (λ x. x ++ r.rest) (sym r.cut.whole)) is.is, r.cut.each);
          apart = apart_more piece reading.pieces r.rest (subst (Follows alphabet piece) (r.whole ∙ ap (λ x. x ++ r.rest) (sym r.cut.whole)) is.then) r.cut.each r.cut.apart;
        };
        ends = subst (λ n. IsEnd reading.fault n r.rest) e r.ends;
      }

  no_pieces : (place : ℕ) (text : List ℕ) (fault : Option ScanFault) → IsEnd fault place text → Reads place text (record { pieces = []; fault = fault })
  no_pieces place text fault ends =
      let e : place ≡ place + 0 = omega arith in
      record { front = []; rest = text; whole = refl; cut = record { whole = refl; each = tt; apart = refl }; ends = subst (λ n. IsEnd fault n text) e ends }

  reads_after : (n place : ℕ) (text : List ℕ) (first : First) → FirstReads alphabet place text first → length text ≤ suc n
      → ((p : ℕ) (rest : List ℕ) → length rest ≤ n → Reads p rest (reading_by n alphabet p rest)) → Reads place text (read_on (reading_by n alphabet) place first)
  reads_after n place text (Ok first) is le go =
      let less = shorter text first.0 first.1 is in
      with_first place text first.0 first.1 _ is (go (place + length (bytes_of first.0)) first.1 (omega arith))
  reads_after n place text (Err fault) is le go = no_pieces place text (Some fault) is

  reads_by : (n place : ℕ) (text : List ℕ) → length text ≤ n → Reads place text (reading_by n alphabet place text)
  reads_by zero place [] le = no_pieces place [] None refl
  reads_by zero place (b ∷ bs) le = absurd (omega arith)
  reads_by (suc n) place [] le = no_pieces place [] None refl
  reads_by (suc n) place (b ∷ bs) le =
      reads_after n place (b ∷ bs) (first_of alphabet place b bs) (first_read alphabet place b bs) le (λ p rest c. reads_by n p rest c)

  -- the reading of a text is a cutting of its front, up to its end or a stop
  pub reads : (place : ℕ) (text : List ℕ) → Reads place text (reading_of alphabet place text)
  reads place text = reads_by (length text) place text (omega arith)

  -- ---- a cutting is what is read

  byte_none : (b : ℕ) (bs : List ℕ) → takes_next alphabet b bs ≡ false → is_word_byte alphabet b bs ≡ false → NoWord alphabet (b ∷ bs)
  byte_none b bs t w = record { stays = cond-false _ _ _ t ∙ cond-false _ _ _ w }

  -- white space begins no word; of the bytes that quote or comment it is none, and no dollar sign
  white_none : (b : ℕ) (bs : List ℕ) → is_white b ≡ true → NoWord alphabet (b ∷ bs)
  white_none b bs w =
      byte_none b bs
      (or_from _ _ (ne_eqb b 92 (λ e. false≢true (ap is_white (sym e) ∙ w))) (and_left _ _ (ne_eqb b 36 (λ e. false≢true (ap is_white (sym e) ∙ w)))))
      (and_left _ _ (and_left _ _ (and_left _ _ (not_from_true _ w))))

  -- no word begins at an operator
  pub operator_none : (b : ℕ) (bs : List ℕ) → is_operator alphabet b bs ≡ true → NoWord alphabet (b ∷ bs)
  operator_none b bs o =
      let p = word_parts alphabet b bs (is_listed alphabet b) o in
      byte_none b bs (takes_none alphabet b bs p.0 p.2) (and_left _ _ (and_right _ _ (not_from_true _ p.3)))

  construct_none : (c : Construct) (rest : List ℕ) → is_construct alphabet c ≡ true → NoWord alphabet (36 ∷ (after_dollar c ++ rest))
  construct_none c rest is =
      byte_none 36 (after_dollar c ++ rest) (construct_apart alphabet c rest is) (and_right _ _ (not_from_true _ (construct_begins alphabet c rest is)))

  abbrev Behind : List Piece → List ℕ → List ℕ
  Behind pieces rest = flat_map bytes_of pieces ++ rest

  -- behind a word stands no word
  none_next : (bytes : List ℕ) (pieces : List Piece) (rest : List ℕ) → ArePieces alphabet pieces rest → are_apart (Run bytes ∷ pieces) ≡ true → NoWord alphabet rest → NoWord alphabet (Behind pieces rest)
  none_next bytes [] rest each apart none = none
  none_next bytes (White b ∷ pieces) rest each apart none = white_none b (Behind pieces rest) each.0
  none_next bytes (Comment inside ∷ pieces) rest each apart none =
      subst (λ x. NoWord alphabet ((x ++ flat_map bytes_of pieces) ++ rest)) (sym each.0.whole) (record { stays = refl })
  none_next bytes (Quotation inside ∷ pieces) rest each apart none =
      subst (λ x. NoWord alphabet ((x ++ flat_map bytes_of pieces) ++ rest)) (sym each.0.whole) (record { stays = refl })
  none_next bytes (Operator b ∷ pieces) rest each apart none = operator_none b (Behind pieces rest) each.0
  none_next bytes (Dollar c ∷ pieces) rest each apart none =
      subst (λ x. NoWord alphabet (36 ∷ x)) (sym (append_assoc (after_dollar c) (flat_map bytes_of pieces) rest)) (construct_none c (Behind pieces rest) each.0)
  none_next bytes (Run word ∷ pieces) rest each apart none = absurd (false≢true apart)

  follows_next : (piece : Piece) (pieces : List Piece) (rest : List ℕ) → ArePieces alphabet pieces rest → are_apart (piece ∷ pieces) ≡ true → NoWord alphabet rest → Follows alphabet piece (Behind pieces rest)
  follows_next (White b) pieces rest each apart none = tt
  follows_next (Comment bytes) pieces rest each apart none = tt
  follows_next (Quotation bytes) pieces rest each apart none = tt
  follows_next (Operator b) pieces rest each apart none = tt
  follows_next (Dollar c) pieces rest each apart none = tt
  follows_next (Run bytes) pieces rest each apart none = none_next bytes pieces rest each apart none

  apart_rest : (piece : Piece) (pieces : List Piece) → are_apart (piece ∷ pieces) ≡ true → are_apart pieces ≡ true
  apart_rest (White b) ps h = h
  apart_rest (Comment bytes) ps h = h
  apart_rest (Quotation bytes) ps h = h
  apart_rest (Operator b) ps h = h
  apart_rest (Dollar c) ps h = h
  apart_rest (Run bytes) [] h = refl
  apart_rest (Run bytes) (White b ∷ ps) h = h
  apart_rest (Run bytes) (Comment inside ∷ ps) h = h
  apart_rest (Run bytes) (Quotation inside ∷ ps) h = h
  apart_rest (Run bytes) (Operator b ∷ ps) h = h
  apart_rest (Run bytes) (Dollar c ∷ ps) h = h
  apart_rest (Run bytes) (Run more ∷ ps) h = absurd (false≢true h)

  -- the same, for a text that the code takes apart
  pub reading_first : (place : ℕ) (text : List ℕ) (piece : Piece) (rest : List ℕ) → first_on alphabet place text ≡ Ok (piece, rest) → reading_of alphabet place text ≡ with_piece piece (reading_of alphabet (place + length (bytes_of piece)) rest)
  reading_first place [] piece rest is = absurd (cc is)
  reading_first place (b ∷ bs) piece rest is = reading_more place b bs piece rest is

  -- pieces in front of a reading
  abbrev pub before : List Piece → Reading → Reading
  before pieces reading = record reading { pieces = pieces ++ reading.pieces }

  -- a cutting of the front is what is read of it
  pub reading_of-pieces : (pieces : List Piece) (rest : List ℕ) (place : ℕ) → ArePieces alphabet pieces rest → are_apart pieces ≡ true → NoWord alphabet rest
      → reading_of alphabet place (flat_map bytes_of pieces ++ rest) ≡ before pieces (reading_of alphabet (place + length (flat_map bytes_of pieces)) rest)
  reading_of-pieces [] rest place each apart none = let e : place ≡ place + 0 = omega arith in ap (λ n. reading_of alphabet n rest) e
  reading_of-pieces (piece ∷ pieces) rest place each apart none =
      let e : place + length (bytes_of piece) + length (flat_map bytes_of pieces) ≡ place + length (bytes_of piece ++ flat_map bytes_of pieces) = omega (arith, length-append (bytes_of piece) (flat_map bytes_of pieces)) in
      ap (reading_of alphabet place) (append_assoc (bytes_of piece) (flat_map bytes_of pieces) rest)
      ∙ reading_first place (bytes_of piece ++ Behind pieces rest) piece (Behind pieces rest)
      (first_is alphabet place piece (Behind pieces rest) each.0 (follows_next piece pieces rest each.1 apart none))
      ∙ ap (with_piece piece) (reading_of-pieces pieces rest (place + length (bytes_of piece)) each.1 (apart_rest piece pieces apart) none)
      ∙ ap (λ n. before (piece ∷ pieces) (reading_of alphabet n rest)) e

  stop_some : (place : ℕ) (fault : ScanFault) → Stops alphabet [] place fault → ⊥
  stop_some place fault stops = stop_length alphabet [] place fault stops refl

  -- where nothing goes on, the reading has no pieces, and that fault
  pub reading_at_stop : (place : ℕ) (text : List ℕ) (fault : ScanFault) → Stops alphabet text place fault → reading_of alphabet place text ≡ record { pieces = []; fault = Some fault }
  reading_at_stop place [] fault stops = absurd (stop_some place fault stops)
  reading_at_stop place (b ∷ bs) fault stops = reading_stop place b bs fault (stop_is alphabet (b ∷ bs) place fault stops)
