-- How a text is read from the left: the lexemes or the fault that `outcome_of` computes are those
-- that Pieces and Scans say, by a law.
use Rattle.std.specs.Prelude.{ℕ, zero, suc, ◌+◌, ◌-◌, Bool, true, false, ◌&&◌, ◌||◌, ◌==◌, nat_le, List, [], ◌∷◌, ◌++◌, length, take, slice_index, Option, Some, None, Result, Ok, Err, if◌then◌else◌}
use Rattle.mail_base.specs.declared.token.Token.{Token}
use Rattle.addr_tokens.specs.declared.lexeme.Dollars.{Dollars}
use Rattle.addr_tokens.specs.declared.lexeme.Lexeme.{Lexeme}
use Rattle.addr_tokens.specs.declared.lexeme.Lexeme.TheVariants.{Token as Plain, Dollar as Metasign, Named}
use Rattle.std.specs.List.{flat_map}
use Rattle.std.specs.Result.{result_ok}
use Rattle.addr_tokens.specs.declared.fault.ScanFault.{ScanFault}
use Rattle.addr_tokens.specs.declared.fault.ScanFault.TheVariants.{Unbalanced, BadQuote, BadDollar, Long}
use Rattle.mail_base.specs.Whites.{is_white}
use Rattle.addr_tokens.specs.Pieces.{Alphabet, Single, Letter, Braced, Piece, White, Comment, Quotation, Operator, Dollar, Run, bytes_of, given_by, plain, is_control, is_listed, is_word_byte, is_dollar, is_doubled, is_construct, is_naming, is_letter}
use Rattle.addr_tokens.specs.Scans.{most_tokens}

-- where a quote or a comment ends: what is behind it, nowhere, or at a bad byte that is followed by
-- one byte less than so many
pub data Ending : Type 0 where
  Closed : (rest : List ℕ) → Ending
  Unclosed : Ending
  Bad : (left : ℕ) → Ending

-- whether a dollar sign stands first
abbrev pub begins_dollar : List ℕ → Bool
begins_dollar text = slice_index text 0 == 36

-- two dollar signs that stand for one in a word
abbrev pub is_pair : Alphabet → ℕ → List ℕ → Bool
is_pair alphabet b after = b == 36 && (begins_dollar after && is_doubled alphabet)

-- the byte takes the next one into the word
abbrev pub takes_next : Alphabet → ℕ → List ℕ → Bool
takes_next alphabet b after = b == 92 || is_pair alphabet b after

-- what is behind the bytes of a word; quoted says that a byte that takes the next one stands before
-- the text
abbrev pub past_word : Alphabet → Bool → List ℕ → List ℕ
past_word alphabet true [] = 92 ∷ []
past_word alphabet false [] = []
past_word alphabet true (b ∷ bs) = past_word alphabet false bs
past_word alphabet false (b ∷ bs) = if takes_next alphabet b bs then past_word alphabet true bs
    else if is_word_byte alphabet b bs then past_word alphabet false bs else b ∷ bs

-- where a quotation ends, behind a backslash or not
abbrev pub past_quote : Bool → List ℕ → Ending
past_quote true [] = Bad 1
past_quote false [] = Unclosed
past_quote true (b ∷ bs) = if is_control b then Bad (length (b ∷ bs)) else past_quote false bs
past_quote false (b ∷ bs) = if is_control b then Bad (length (b ∷ bs))
    else if b == 92 then past_quote true bs else if b == 34 then Closed bs else past_quote false bs

-- after a closing parenthesis, inside of so many comments
abbrev pub closed_by : (ℕ → Ending) → List ℕ → ℕ → Ending
closed_by go rest zero = Closed rest
closed_by go rest (suc depth) = go depth

-- behind a comment that is inside of so many others
abbrev pub past_comment : ℕ → Bool → List ℕ → Ending
past_comment depth true [] = Bad 1
past_comment depth false [] = Unclosed
past_comment depth true (b ∷ bs) = past_comment depth false bs
past_comment depth false (b ∷ bs) = if b == 92 then past_comment depth true bs
    else if b == 40 then past_comment (suc depth) false bs
    else if b == 41 then closed_by (λ d. past_comment d false bs) bs depth
    else past_comment depth false bs

-- the front of a text before the rest of it
abbrev pub front_of : List ℕ → List ℕ → List ℕ
front_of text rest = take (length text - length rest) text

-- the first piece and the rest, or why there is none
abbrev pub First : Type 0
First = Result (Piece × List ℕ) ScanFault

-- a word up to its rest, which isn't empty
abbrev pub first_word : ℕ → List ℕ → List ℕ → First
first_word place text rest = if length text - length rest == 0 then Err (BadQuote place)
    else Ok (Run (front_of text rest), rest)

-- a quotation up to its end
abbrev pub first_quote : ℕ → List ℕ → Ending → First
first_quote place text (Closed rest) = Ok (Quotation (front_of text rest), rest)
first_quote place text Unclosed = Err (BadQuote place)
first_quote place text (Bad left) = Err (BadQuote (place + (length text - left)))

-- a comment up to its end
abbrev pub first_comment : ℕ → List ℕ → Ending → First
first_comment place text (Closed rest) = Ok (Comment (front_of text rest), rest)
first_comment place text Unclosed = Err (Unbalanced place)
first_comment place text (Bad left) = Err (BadQuote (place + (length text - left)))

-- up to the first closing brace, and what is behind it
abbrev pub with_byte : ℕ → Option (List ℕ × List ℕ) → Option (List ℕ × List ℕ)
with_byte b None = None
with_byte b (Some parts) = Some (b ∷ parts.0, parts.1)

-- what stands before the first `}` and what stands behind it
abbrev pub in_braces : List ℕ → Option (List ℕ × List ℕ)
in_braces [] = None
in_braces (b ∷ bs) = if b == 125 then Some ([], bs) else with_byte b (in_braces bs)

-- a construct with a name in braces, if they are closed and aren't empty
abbrev pub first_braced : ℕ → ℕ → Option (List ℕ × List ℕ) → First
first_braced place b None = Err (BadDollar place)
first_braced place b (Some parts) =
    if length parts.0 == 0 then Err (BadDollar place) else Ok (Dollar (Braced b parts.0), parts.1)

-- the name behind a dollar sign with this byte
abbrev pub first_named : ℕ → ℕ → List ℕ → First
first_named place b [] = Err (BadDollar place)
first_named place b (c ∷ cs) = if c == 123 then first_braced place b (in_braces cs)
    else if is_letter b c then Ok (Dollar (Letter b c), cs) else Err (BadDollar place)

-- what is behind a dollar sign that begins a construct, if any does
abbrev pub first_dollar : Alphabet → ℕ → List ℕ → First
first_dollar alphabet place [] = Err (BadDollar place)
first_dollar alphabet place (b ∷ bs) =
    if is_construct alphabet (Single b) then Ok (Dollar (Single b), bs)
    else if is_naming b then first_named place b bs
    else Err (BadDollar place)

-- the first piece of a text that has a byte, and what is behind it; or the fault
abbrev pub first_of : Alphabet → ℕ → ℕ → List ℕ → First
first_of alphabet place b bs =
    if is_white b then Ok (White b, bs)
    else if b == 40 then first_comment place (b ∷ bs) (past_comment zero false bs)
    else if b == 41 then Err (Unbalanced place)
    else if b == 34 then first_quote place (b ∷ bs) (past_quote false bs)
    else if takes_next alphabet b bs
    then first_word place (b ∷ bs) (past_word alphabet false (b ∷ bs))
    else if is_dollar alphabet.dollars b bs then first_dollar alphabet place bs
    else if is_listed alphabet b then Ok (Operator b, bs)
    else first_word place (b ∷ bs) (past_word alphabet false (b ∷ bs))

-- the pieces of a text up to its end, or to what no piece begins
pub record Reading : Type 0 where
  pub pieces : List Piece
  pub fault : Option ScanFault

-- a piece in front of a reading
abbrev pub with_piece : Piece → Reading → Reading
with_piece piece reading = record reading { pieces = piece ∷ reading.pieces }

-- the first piece and what is read behind it
abbrev pub read_on : (ℕ → List ℕ → Reading) → ℕ → First → Reading
read_on go place (Ok first) = with_piece first.0 (go (place + length (bytes_of first.0)) first.1)
read_on go place (Err fault) = record { pieces = []; fault = Some fault }

-- so many pieces at most
abbrev pub reading_by : ℕ → Alphabet → ℕ → List ℕ → Reading
reading_by zero alphabet place text = record { pieces = []; fault = None }
reading_by (suc n) alphabet place [] = record { pieces = []; fault = None }
reading_by (suc n) alphabet place (b ∷ bs) =
    read_on (reading_by n alphabet) place (first_of alphabet place b bs)

-- a text has no more pieces than bytes
abbrev pub reading_of : Alphabet → ℕ → List ℕ → Reading
reading_of alphabet place text = reading_by (length text) alphabet place text

-- after a `>`, where these `<` are open
abbrev pub close_angle : ℕ → List ℕ → Result (List ℕ) ScanFault
close_angle place [] = Err (Unbalanced place)
close_angle place (last ∷ lefts) = Ok lefts

-- the places of the `<` that are open, the last one first; or the place of a `>` without one
abbrev pub note_angle : Bool → ℕ → List ℕ → Piece → Result (List ℕ) ScanFault
note_angle true place lefts (Operator byte) =
    if byte == 60 then Ok (place ∷ lefts)
    else if byte == 62 then close_angle place lefts else Ok lefts
note_angle angles place lefts piece = Ok lefts

-- the lexemes of a text, or its fault
abbrev pub Answer : Type 0
Answer = Result (List Lexeme) ScanFault

-- lexemes in front of others, if there is no fault
abbrev pub with_lexemes : List Lexeme → Answer → Answer
with_lexemes lexemes (Ok more) = Ok (lexemes ++ more)
with_lexemes lexemes (Err fault) = Err fault

-- lexemes and what comes behind them, if the brackets so far are right
abbrev pub judge_on : (List ℕ → Answer) → List Lexeme → Result (List ℕ) ScanFault → Answer
judge_on go lexemes (Ok lefts) = with_lexemes lexemes (go lefts)
judge_on go lexemes (Err fault) = Err fault

-- at the end, where these `<` are open
abbrev pub judge_end : List ℕ → Option ScanFault → Answer
judge_end lefts (Some fault) = Err fault
judge_end [] None = Ok []
judge_end (last ∷ lefts) None = Err (Unbalanced last)

-- what the pieces give, or the fault of their angles, or the one behind them
abbrev pub judged : Dollars → Bool → ℕ → List ℕ → List Piece → Option ScanFault → Answer
judged dollars angles place lefts [] fault = judge_end lefts fault
judged dollars angles place lefts (piece ∷ pieces) fault =
    judge_on (λ lefts. judged dollars angles (place + length (bytes_of piece)) lefts pieces fault)
    (given_by dollars piece) (note_angle angles place lefts piece)

-- the lexemes, if they aren't too many
abbrev pub limited : List Lexeme → Answer
limited lexemes = if nat_le (length lexemes) most_tokens then Ok lexemes else Err Long

-- what is answered where these lexemes were gathered, or too many, before the others
abbrev pub gathered : Bool → List Lexeme → Answer → Answer
gathered is_long lexemes (Err fault) = Err fault
gathered true lexemes (Ok more) = Err Long
gathered false lexemes (Ok more) = limited (lexemes ++ more)

-- of what is left of a text
abbrev pub outcome_on : Alphabet → Bool → ℕ → List ℕ → List ℕ → Answer
outcome_on alphabet angles place lefts text =
    let reading = reading_of alphabet place text in
    judged alphabet.dollars angles place lefts reading.pieces reading.fault

-- the lexemes of a text, or its first fault
abbrev pub outcome_of : Alphabet → Bool → List ℕ → Answer
outcome_of alphabet angles text = gathered false [] (outcome_on alphabet angles 0 [] text)

-- the tokens among the lexemes
abbrev pub token_in : Lexeme → List Token
token_in (Plain token) = token ∷ []
token_in (Metasign byte) = []
token_in (Named byte name) = []

-- the tokens among the lexemes
abbrev pub tokens_among : Answer → Result (List Token) ScanFault
tokens_among (Ok lexemes) = Ok (flat_map token_in lexemes)
tokens_among (Err fault) = Err fault

-- where each lexeme is a token
abbrev pub tokens_or_fault : Alphabet → Bool → List ℕ → Result (List Token) ScanFault
tokens_or_fault alphabet angles text = tokens_among (outcome_of alphabet angles text)

-- the tokens of a text under these operators, or none where it can't be cut
unfoldable pub cut : List ℕ → Bool → List ℕ → Option (List Token)
cut operators angles text = result_ok (tokens_or_fault (plain operators) angles text)
