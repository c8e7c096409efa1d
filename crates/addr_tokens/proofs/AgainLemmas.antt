-- Tokens that are joined and cut again.
use Rattle.std.proofs.Common.{◌≡◌, ℕ, ◌≤◌, Bool, true, false, ◌&&◌, cond, List, [], ◌∷◌, ◌++◌, length, map, Option, Some, None, refl, sym, ◌∙◌, ap, subst, arith}
use Rattle.std.specs.List.{flat_map, AllByRecursion}
use Rattle.std.proofs.lemmas.Bool.{false≢true, true≢false}
use Rattle.std.proofs.lemmas.List.{append-nil, length-append}
use Rattle.mail_base.specs.declared.token.Token.{Token}
use Rattle.mail_base.specs.declared.token.Token.TheVariants.{Word, Quoted, Op, Sign}
use Rattle.mail_base.specs.Whites.{is_white}
use Rattle.addr_tokens.specs.declared.lexeme.Dollars.TheVariants.{Bytes}
use Rattle.addr_tokens.specs.declared.lexeme.Lexeme.TheVariants.{Token as Plain}
use Rattle.addr_tokens.specs.Pieces.{InWord, word_nothing, word_plain, word_escaped, word_doubled, IsPiece, IsRun, IsQuotation, ArePieces, Piece, White, Comment, Quotation, Operator, Dollar, Run, bytes_of, after_dollar, lexemes_of, plain, are_apart, is_operator}
use Rattle.addr_tokens.specs.Scans.{AreTokens}
use Rattle.addr_tokens.specs.Joins.{joined, between, token_bytes, is_string, blank_bytes, have_neighbours}
use Rattle.addr_tokens.specs.Reader.{token_in}
use Rattle.addr_tokens.proofs.FirstLemmas.{piece_some}
use Rattle.addr_tokens.proofs.PlainLemmas.{token_in-map}

-- the token that a piece gives, where no dollar sign means anything
abbrev token_of : Piece → List Token
token_of (White byte) = []
token_of (Comment bytes) = []
token_of (Quotation bytes) = Quoted bytes ∷ []
token_of (Operator byte) = Op byte ∷ []
token_of (Dollar construct) = []
token_of (Run bytes) = Word bytes ∷ []

abbrev tokens_of : List Piece → List Token
tokens_of pieces = flat_map token_of pieces

-- the piece that gives a token
abbrev piece_for : Token → Piece
piece_for (Word text) = Run text
piece_for (Quoted text) = Quotation text
piece_for (Op byte) = Operator byte
piece_for (Sign mark) = White 32

abbrev blank_pieces : Option ℕ → List Piece
blank_pieces None = []
blank_pieces (Some byte) = White byte ∷ []

abbrev gap : Option ℕ → Token → Token → List Piece
gap blank left right = cond (is_string left && is_string right) (blank_pieces blank) []

abbrev behind : Option ℕ → Token → List Token → List Piece
behind blank token [] = []
behind blank token (next ∷ tokens) = gap blank token next ++ piece_for next ∷ behind blank next tokens

-- what a blank may be
abbrev IsBlank : Option ℕ → Type 0
IsBlank None = Unit {0}
IsBlank (Some byte) = is_white byte ≡ true

module _ (operators : List ℕ) where
  -- a word is one wherever it stands
  word_anywhere : (word rest other : List ℕ) → InWord (plain operators) word rest → InWord (plain operators) word other
  word_anywhere _ _ other (word_nothing rest) = word_nothing other
  word_anywhere _ _ other (word_plain b more rest w is) = word_plain b more other w (word_anywhere more rest other is)
  word_anywhere _ _ other (word_escaped b more rest is) = word_escaped b more other (word_anywhere more rest other is)
  word_anywhere _ _ other (word_doubled more rest two is) = absurd (false≢true two)

  run_anywhere : (bytes rest other : List ℕ) → IsRun (plain operators) bytes rest → IsRun (plain operators) bytes other
  run_anywhere bytes rest other is = record { some = is.some; is = word_anywhere bytes rest other is.is }

  abbrev Fits : Token → Type 0
  Fits (Word text) = IsRun (plain operators) text []
  Fits (Quoted text) = IsQuotation text
  Fits (Op byte) = is_operator (plain operators) byte [] ≡ true
  Fits (Sign mark) = ⊥

  fits_of : (pieces : List Piece) (rest : List ℕ) → ArePieces (plain operators) pieces rest → AllByRecursion Fits (tokens_of pieces)
  fits_of [] rest each = tt
  fits_of (White b ∷ pieces) rest each = fits_of pieces rest each.1
  fits_of (Comment bytes ∷ pieces) rest each = fits_of pieces rest each.1
  fits_of (Quotation bytes ∷ pieces) rest each = (each.0, fits_of pieces rest each.1)
  fits_of (Operator b ∷ pieces) rest each = (each.0, fits_of pieces rest each.1)
  fits_of (Dollar construct ∷ pieces) rest each = absurd (false≢true each.0)
  fits_of (Run bytes ∷ pieces) rest each = (run_anywhere bytes (flat_map bytes_of pieces ++ rest) [] each.0, fits_of pieces rest each.1)

  given_tokens : (pieces : List Piece) (rest : List ℕ) → ArePieces (plain operators) pieces rest → lexemes_of Bytes pieces ≡ map Plain (tokens_of pieces)
  given_tokens [] rest each = refl
  given_tokens (White b ∷ pieces) rest each = given_tokens pieces rest each.1
  given_tokens (Comment bytes ∷ pieces) rest each = given_tokens pieces rest each.1
  given_tokens (Quotation bytes ∷ pieces) rest each = ap (λ x. Plain (Quoted bytes) ∷ x) (given_tokens pieces rest each.1)
  given_tokens (Operator b ∷ pieces) rest each = ap (λ x. Plain (Op b) ∷ x) (given_tokens pieces rest each.1)
  given_tokens (Dollar construct ∷ pieces) rest each = absurd (false≢true each.0)
  given_tokens (Run bytes ∷ pieces) rest each = ap (λ x. Plain (Word bytes) ∷ x) (given_tokens pieces rest each.1)

  tokens_are : (angles : Bool) (text : List ℕ) (tokens : List Token) → (a : AreTokens (plain operators) angles text tokens) → tokens_of a.pieces ≡ tokens
  tokens_are angles text tokens a =
      sym (token_in-map (tokens_of a.pieces)) ∙ ap (flat_map token_in) (sym (given_tokens a.pieces [] a.cut.each) ∙ a.lexemes_are) ∙ token_in-map tokens

  piece_fits : (token : Token) (rest : List ℕ) → Fits token → IsPiece (plain operators) (piece_for token) rest
  piece_fits (Word text) rest fits = run_anywhere text [] rest fits
  piece_fits (Quoted text) rest fits = fits
  piece_fits (Op byte) rest fits = fits
  piece_fits (Sign mark) rest fits = absurd fits

  piece_bytes : (token : Token) → Fits token → bytes_of (piece_for token) ≡ token_bytes token
  piece_bytes (Word text) fits = refl
  piece_bytes (Quoted text) fits = refl
  piece_bytes (Op byte) fits = refl
  piece_bytes (Sign mark) fits = absurd fits

  piece_token : (token : Token) → Fits token → token_of (piece_for token) ≡ token ∷ []
  piece_token (Word text) fits = refl
  piece_token (Quoted text) fits = refl
  piece_token (Op byte) fits = refl
  piece_token (Sign mark) fits = absurd fits

  -- a blank or none, before more pieces
  gap_bytes : (blank : Option ℕ) (strings : Bool) (more : List Piece) → flat_map bytes_of (cond strings (blank_pieces blank) [] ++ more) ≡ cond strings (blank_bytes blank) [] ++ flat_map bytes_of more
  gap_bytes blank false more = refl
  gap_bytes None true more = refl
  gap_bytes (Some byte) true more = refl

  gap_tokens : (blank : Option ℕ) (strings : Bool) (more : List Piece) → tokens_of (cond strings (blank_pieces blank) [] ++ more) ≡ tokens_of more
  gap_tokens blank false more = refl
  gap_tokens None true more = refl
  gap_tokens (Some byte) true more = refl

  gap_each : (blank : Option ℕ) (strings : Bool) (more : List Piece) → IsBlank blank → ArePieces (plain operators) more [] → ArePieces (plain operators) (cond strings (blank_pieces blank) [] ++ more) []
  gap_each blank false more white each = each
  gap_each None true more white each = each
  gap_each (Some byte) true more white each = (white, each)

  joined_bytes : (blank : Option ℕ) (token : Token) (tokens : List Token) → Fits token → AllByRecursion Fits tokens → flat_map bytes_of (piece_for token ∷ behind blank token tokens) ≡ joined blank (token ∷ tokens)
  joined_bytes blank token [] fits all = append-nil (bytes_of (piece_for token)) ∙ piece_bytes token fits
  joined_bytes blank token (next ∷ tokens) fits all =
      (λ i. piece_bytes token fits i ++ gap_bytes blank (is_string token && is_string next) (piece_for next ∷ behind blank next tokens) i)
      ∙ ap (λ x. token_bytes token ++ (between blank token next ++ x)) (joined_bytes blank next tokens all.0 all.1)

  joined_tokens : (blank : Option ℕ) (token : Token) (tokens : List Token) → Fits token → AllByRecursion Fits tokens → tokens_of (piece_for token ∷ behind blank token tokens) ≡ token ∷ tokens
  joined_tokens blank token [] fits all = ap (λ x. x ++ []) (piece_token token fits)
  joined_tokens blank token (next ∷ tokens) fits all =
      (λ i. piece_token token fits i ++ gap_tokens blank (is_string token && is_string next) (piece_for next ∷ behind blank next tokens) i)
      ∙ ap (λ x. token ∷ x) (joined_tokens blank next tokens all.0 all.1)

  joined_each : (blank : Option ℕ) (token : Token) (tokens : List Token) → IsBlank blank → Fits token → AllByRecursion Fits tokens → ArePieces (plain operators) (piece_for token ∷ behind blank token tokens) []
  joined_each blank token [] white fits all = (piece_fits token [] fits, tt)
  joined_each blank token (next ∷ tokens) white fits all =
      (piece_fits token (flat_map bytes_of (behind blank token (next ∷ tokens)) ++ []) fits, gap_each blank (is_string token && is_string next) (piece_for next ∷ behind blank next tokens) white (joined_each blank next tokens white all.0 all.1))

  apart_spaced : (white : ℕ) (token : Token) (tokens : List Token) → Fits token → AllByRecursion Fits tokens → are_apart (piece_for token ∷ behind (Some white) token tokens) ≡ true
  apart_spaced white (Word x) [] fits all = refl
  apart_spaced white (Quoted x) [] fits all = refl
  apart_spaced white (Op x) [] fits all = refl
  apart_spaced white (Sign mark) tokens fits all = absurd fits
  apart_spaced white (Word x) (Word y ∷ tokens) fits all = apart_spaced white (Word y) tokens all.0 all.1
  apart_spaced white (Word x) (Quoted y ∷ tokens) fits all = apart_spaced white (Quoted y) tokens all.0 all.1
  apart_spaced white (Word x) (Op y ∷ tokens) fits all = apart_spaced white (Op y) tokens all.0 all.1
  apart_spaced white (Word x) (Sign mark ∷ tokens) fits all = absurd all.0
  apart_spaced white (Quoted x) (Word y ∷ tokens) fits all = apart_spaced white (Word y) tokens all.0 all.1
  apart_spaced white (Quoted x) (Quoted y ∷ tokens) fits all = apart_spaced white (Quoted y) tokens all.0 all.1
  apart_spaced white (Quoted x) (Op y ∷ tokens) fits all = apart_spaced white (Op y) tokens all.0 all.1
  apart_spaced white (Quoted x) (Sign mark ∷ tokens) fits all = absurd all.0
  apart_spaced white (Op x) (Word y ∷ tokens) fits all = apart_spaced white (Word y) tokens all.0 all.1
  apart_spaced white (Op x) (Quoted y ∷ tokens) fits all = apart_spaced white (Quoted y) tokens all.0 all.1
  apart_spaced white (Op x) (Op y ∷ tokens) fits all = apart_spaced white (Op y) tokens all.0 all.1
  apart_spaced white (Op x) (Sign mark ∷ tokens) fits all = absurd all.0

  apart_close : (token : Token) (tokens : List Token) → Fits token → AllByRecursion Fits tokens → have_neighbours (token ∷ tokens) ≡ false → are_apart (piece_for token ∷ behind None token tokens) ≡ true
  apart_close (Word x) [] fits all none = refl
  apart_close (Quoted x) [] fits all none = refl
  apart_close (Op x) [] fits all none = refl
  apart_close (Sign mark) tokens fits all none = absurd fits
  apart_close (Word x) (Word y ∷ tokens) fits all none = absurd (true≢false none)
  apart_close (Word x) (Quoted y ∷ tokens) fits all none = apart_close (Quoted y) tokens all.0 all.1 none
  apart_close (Word x) (Op y ∷ tokens) fits all none = apart_close (Op y) tokens all.0 all.1 none
  apart_close (Word x) (Sign mark ∷ tokens) fits all none = absurd all.0
  apart_close (Quoted x) (Word y ∷ tokens) fits all none = apart_close (Word y) tokens all.0 all.1 none
  apart_close (Quoted x) (Quoted y ∷ tokens) fits all none = apart_close (Quoted y) tokens all.0 all.1 none
  apart_close (Quoted x) (Op y ∷ tokens) fits all none = apart_close (Op y) tokens all.0 all.1 none
  apart_close (Quoted x) (Sign mark ∷ tokens) fits all none = absurd all.0
  apart_close (Op x) (Word y ∷ tokens) fits all none = apart_close (Word y) tokens all.0 all.1 none
  apart_close (Op x) (Quoted y ∷ tokens) fits all none = apart_close (Quoted y) tokens all.0 all.1 none
  apart_close (Op x) (Op y ∷ tokens) fits all none = apart_close (Op y) tokens all.0 all.1 none
  apart_close (Op x) (Sign mark ∷ tokens) fits all none = absurd all.0

  -- ---- joined tokens are cut into the same

  again : (angles : Bool) (text : List ℕ) (blank : Option ℕ) (tokens : List Token) → (a : AreTokens (plain operators) angles text tokens) → IsBlank blank
      → ((token : Token) (more : List Token) → tokens ≡ token ∷ more → Fits token → AllByRecursion Fits more → are_apart (piece_for token ∷ behind blank token more) ≡ true) → AreTokens (plain operators) angles (joined blank tokens) tokens
  again angles text blank [] a white apart = record { pieces = []; cut = record { whole = refl; each = tt; apart = refl }; lexemes_are = refl; balanced = a.balanced; short = a.short }
  again angles text blank (token ∷ more) a white apart =
      let all : AllByRecursion Fits (token ∷ more) = subst (AllByRecursion Fits) (tokens_are angles text (token ∷ more) a) (fits_of a.pieces [] a.cut.each) in
      let each = joined_each blank token more white all.0 all.1 in
      record {
        pieces = piece_for token ∷ behind blank token more;
        cut = record { whole = joined_bytes blank token more all.0 all.1; each = each; apart = apart token more refl all.0 all.1 };
        lexemes_are = given_tokens (piece_for token ∷ behind blank token more) [] each ∙ ap (map Plain) (joined_tokens blank token more all.0 all.1);
        balanced = a.balanced;
        short = a.short;
      }

  -- tokens that are joined with white space between them are cut into themselves again
  pub spaced_again : (angles : Bool) (text : List ℕ) (tokens : List Token) (white : ℕ) → AreTokens (plain operators) angles text tokens → is_white white ≡ true → AreTokens (plain operators) angles (joined (Some white) tokens) tokens
  spaced_again angles text tokens white a is = again angles text (Some white) tokens a is (λ token more whole fits all. apart_spaced white token more fits all)

  -- tokens of which no two words are neighbours are cut into themselves again when joined without
  -- space
  pub close_again : (angles : Bool) (text : List ℕ) (tokens : List Token) → AreTokens (plain operators) angles text tokens → have_neighbours tokens ≡ false → AreTokens (plain operators) angles (joined None tokens) tokens
  close_again angles text tokens a none = again angles text None tokens a tt (λ token more whole fits all. apart_close token more fits all (ap have_neighbours (sym whole) ∙ none))

  -- ---- and else they are not

  no_blank : (strings : Bool) (more : List ℕ) → cond strings (blank_bytes None) [] ++ more ≡ more
  no_blank true more = refl
  no_blank false more = refl

  joined-none : (tokens : List Token) → joined None tokens ≡ flat_map token_bytes tokens
  joined-none [] = refl
  joined-none (token ∷ []) = sym (append-nil (token_bytes token))
  joined-none (token ∷ next ∷ tokens) = ap (λ x. token_bytes token ++ x) (no_blank (is_string token && is_string next) (joined None (next ∷ tokens)) ∙ joined-none (next ∷ tokens))

  abbrev size : List Piece → ℕ
  size pieces = length (flat_map bytes_of pieces)

  abbrev size_in : List Piece → ℕ
  size_in pieces = length (flat_map token_bytes (tokens_of pieces))

  -- the tokens have no more bytes than the pieces
  no_more : (pieces : List Piece) → size_in pieces ≤ size pieces
  no_more [] = omega arith
  no_more (White b ∷ pieces) = omega (arith, no_more pieces)
  no_more (Comment bytes ∷ pieces) = omega (arith, no_more pieces, length-append bytes (flat_map bytes_of pieces))
  no_more (Quotation bytes ∷ pieces) = omega (arith, no_more pieces, length-append bytes (flat_map bytes_of pieces), length-append bytes (flat_map token_bytes (tokens_of pieces)))
  no_more (Operator b ∷ pieces) = omega (arith, no_more pieces)
  no_more (Dollar construct ∷ pieces) = omega (arith, no_more pieces, length-append (after_dollar construct) (flat_map bytes_of pieces))
  no_more (Run bytes ∷ pieces) = omega (arith, no_more pieces, length-append bytes (flat_map bytes_of pieces), length-append bytes (flat_map token_bytes (tokens_of pieces)))

  -- where every byte is one of a token, words are apart in the tokens as in the pieces
  none_between : (pieces : List Piece) (rest : List ℕ) → ArePieces (plain operators) pieces rest → are_apart pieces ≡ true → size pieces ≡ size_in pieces → have_neighbours (tokens_of pieces) ≡ false
  none_between [] rest each apart same = refl
  none_between (White b ∷ pieces) rest each apart same = absurd (omega (arith, no_more pieces))
  none_between (Comment bytes ∷ pieces) rest each apart same = absurd (omega (arith, no_more pieces, length-append bytes (flat_map bytes_of pieces), piece_some (plain operators) (Comment bytes) (flat_map bytes_of pieces ++ rest) each.0))
  none_between (Quotation bytes ∷ pieces) rest each apart same =
      none_between pieces rest each.1 apart (omega (arith, length-append bytes (flat_map bytes_of pieces), length-append bytes (flat_map token_bytes (tokens_of pieces))))
  none_between (Operator b ∷ pieces) rest each apart same = none_between pieces rest each.1 apart (omega arith)
  none_between (Dollar construct ∷ pieces) rest each apart same = absurd (false≢true each.0)
  none_between (Run bytes ∷ []) rest each apart same = refl
  none_between (Run bytes ∷ White b ∷ pieces) rest each apart same =
      absurd (omega (arith, no_more pieces, length-append bytes (flat_map bytes_of (White b ∷ pieces)), length-append bytes (flat_map token_bytes (tokens_of pieces))))
  none_between (Run bytes ∷ Comment inside ∷ pieces) rest each apart same =
      absurd (omega (arith, no_more pieces, length-append bytes (flat_map bytes_of (Comment inside ∷ pieces)), length-append inside (flat_map bytes_of pieces), length-append bytes (flat_map token_bytes (tokens_of pieces)), piece_some (plain operators) (Comment inside) (flat_map bytes_of pieces ++ rest) each.1.0))
  none_between (Run bytes ∷ Quotation inside ∷ pieces) rest each apart same =
      none_between (Quotation inside ∷ pieces) rest each.1 apart (omega (arith, length-append bytes (flat_map bytes_of (Quotation inside ∷ pieces)), length-append bytes (flat_map token_bytes (tokens_of (Quotation inside ∷ pieces)))))
  none_between (Run bytes ∷ Operator b ∷ pieces) rest each apart same =
      none_between (Operator b ∷ pieces) rest each.1 apart (omega (arith, length-append bytes (flat_map bytes_of (Operator b ∷ pieces)), length-append bytes (flat_map token_bytes (tokens_of (Operator b ∷ pieces)))))
  none_between (Run bytes ∷ Dollar construct ∷ pieces) rest each apart same = absurd (false≢true each.1.0)
  none_between (Run bytes ∷ Run more ∷ pieces) rest each apart same = absurd (false≢true apart)

  -- tokens that are cut into themselves again, joined without space, have no neighbouring words
  pub only_apart : (angles : Bool) (tokens : List Token) → AreTokens (plain operators) angles (joined None tokens) tokens → have_neighbours tokens ≡ false
  only_apart angles tokens a =
      let same : size a.pieces ≡ size_in a.pieces = ap length (a.cut.whole ∙ joined-none tokens ∙ ap (flat_map token_bytes) (sym (tokens_are angles (joined None tokens) tokens a))) in
      ap have_neighbours (sym (tokens_are angles (joined None tokens) tokens a)) ∙ none_between a.pieces [] a.cut.each a.cut.apart same
