-- The pieces that a text is cut into, and what they give (Sendmail Installation and Operation
-- Guide, "R and S: Rewriting Rules" and its option OperatorChars; for quoted strings and comments
-- RFC 5322 sections 3.2.1, 3.2.2 and 3.2.4).
use Rattle.std.specs.Prelude.{◌≡◌, ◌≢◌, ℕ, Bool, true, false, not, ◌&&◌, ◌||◌, ◌==◌, nat_lt, List, [], ◌∷◌, ◌++◌, length, codes, slice_index, if◌then◌else◌}
use Rattle.std.specs.List.{list_any, flat_map}
use Rattle.mail_base.specs.Whites.{is_white}
use Rattle.mail_base.specs.declared.token.Token.TheVariants.{Word, Quoted, Op, Sign}
use Rattle.mail_base.specs.declared.token.Mark.{Mark}
use Rattle.mail_base.specs.declared.token.Mark.TheVariants.{Alt, Mailer, Host, User, End}
use Rattle.addr_tokens.specs.declared.lexeme.Dollars.{Dollars}
use Rattle.addr_tokens.specs.declared.lexeme.Dollars.TheVariants.{Bytes, Typed, Side}
use Rattle.addr_tokens.specs.declared.lexeme.Lexeme.{Lexeme}
use Rattle.addr_tokens.specs.declared.lexeme.Lexeme.TheVariants.{Token as Plain, Dollar as Metasign, Named}

-- what may not stand in quotes: a byte below 32, and 127
abbrev pub is_control : ℕ → Bool
is_control b = nat_lt b 32 || b == 127

-- the bytes that quote or comment: a double quote, a backslash and the two parentheses
abbrev pub is_special : ℕ → Bool
is_special b = b == 34 || b == 92 || b == 40 || b == 41

-- these are operators always, beside the parentheses, which make comments
abbrev pub fixed_operators : List ℕ
fixed_operators = codes "<>,;"

-- which bytes are operators, and what a dollar sign means
pub record Alphabet : Type 0 where
  pub operators : List ℕ
  pub dollars : Dollars

-- an alphabet by its operators, and by what dollar signs mean
abbrev pub alphabet_of : List ℕ → Dollars → Alphabet
alphabet_of operators dollars = record { operators = operators; dollars = dollars }

-- no dollar sign means anything
abbrev pub plain : List ℕ → Alphabet
plain operators = alphabet_of operators Bytes

-- whether a byte is one of the operators
abbrev pub is_listed : Alphabet → ℕ → Bool
is_listed alphabet b =
    list_any (λ o. o == b) alphabet.operators || list_any (λ o. o == b) fixed_operators

-- ---- dollar signs

-- the five signs that an address may be typed with: `$|`, `$#`, `$@`, `$:` and `$.`
abbrev pub is_mark : ℕ → Bool
is_mark b = list_any (λ m. m == b) (codes "|#@:.")

-- what a byte behind a dollar sign marks
abbrev pub mark_of : ℕ → Mark
mark_of b = if b == 124 then Alt else if b == 35 then Mailer else if b == 64 then Host
    else if b == 58 then User else End

-- what may follow a dollar sign in a rule's side and has no name
abbrev pub is_bare : ℕ → Bool
is_bare b = list_any (λ s. s == b) (codes "0123456789*+-@:#>[]()|.")

-- what has a name there: `$=x`, `$~x` and `$&x`
abbrev pub is_naming : ℕ → Bool
is_naming b = list_any (λ s. s == b) (codes "=~&")

-- what has a meaning behind a dollar sign, in a rule's side or in a text that is expanded
abbrev pub is_sign : ℕ → Bool
is_sign b = list_any (λ s. s == b) (codes "0123456789*+-@:#>[]()=~$&?|.{")

-- a macro's name of one byte is neither white space nor such a sign
abbrev pub is_name : ℕ → Bool
is_name b = not (is_white b) && not (is_sign b)

-- a class's name of one byte may be such a sign, but a dollar sign begins a construct, and an open
-- brace a name in braces
abbrev pub is_class_name : ℕ → Bool
is_class_name b = not (is_white b) && not (b == 36 || b == 123)

-- `$&` stands before a macro's name, `$=` and `$~` before a class's
abbrev pub is_letter : ℕ → ℕ → Bool
is_letter byte letter = if byte == 38 then is_name letter else is_class_name letter

-- a name in braces is up to the first closing one, and no construct has an empty one
abbrev pub is_in_braces : List ℕ → Bool
is_in_braces name = not (list_any (λ b. b == 125) name)

-- a dollar sign with its byte, and maybe with a name of one byte or of any in braces
pub data Construct : Type 0 where
  Single : (byte : ℕ) → Construct
  Letter : (byte letter : ℕ) → Construct
  Braced : (byte : ℕ) (name : List ℕ) → Construct

-- what is behind the dollar sign
abbrev pub after_dollar : Construct → List ℕ
after_dollar (Single byte) = byte ∷ []
after_dollar (Letter byte letter) = byte ∷ letter ∷ []
after_dollar (Braced byte name) = byte ∷ 123 ∷ (name ++ 125 ∷ [])

-- which there are, where the dollar sign is an operator or isn't
abbrev pub is_construct_in : Dollars → Bool → Construct → Bool
is_construct_in Bytes operator construct = false
is_construct_in Typed operator (Single byte) = is_mark byte
is_construct_in Typed operator (Letter byte letter) = false
is_construct_in Typed operator (Braced byte name) = false
is_construct_in Side operator (Single byte) = is_bare byte || byte == 36 && operator
is_construct_in Side operator (Letter byte letter) = is_naming byte && is_letter byte letter
is_construct_in Side operator (Braced byte name) =
    is_naming byte && (not (length name == 0) && is_in_braces name)

-- a doubled dollar sign is a construct where it is an operator, and else it stands in a word
abbrev pub is_construct : Alphabet → Construct → Bool
is_construct alphabet construct = is_construct_in alphabet.dollars (is_listed alphabet 36) construct

-- before what is behind it a dollar sign begins a construct or is refused: in a typed address
-- before one of the five bytes, in a rule's side each. Where nothing is behind it, 0 is.
abbrev pub means : Dollars → List ℕ → Bool
means Bytes after = false
means Typed after = is_mark (slice_index after 0)
means Side after = true

-- whether a construct begins with this byte
abbrev pub is_dollar : Dollars → ℕ → List ℕ → Bool
is_dollar dollars b after = b == 36 && means dollars after

-- whether the text is a side of a rule
abbrev pub is_side : Dollars → Bool
is_side Bytes = false
is_side Typed = false
is_side Side = true

-- a doubled dollar sign stands for one in a word of a rule's side
abbrev pub is_doubled : Alphabet → Bool
is_doubled alphabet = is_side alphabet.dollars && not (is_listed alphabet 36)

-- ---- bytes

-- white space, quotes, backslashes and parentheses stay what they are where they are listed as
-- operators
abbrev pub is_operator : Alphabet → ℕ → List ℕ → Bool
is_operator alphabet b after = not (is_white b) && not (is_special b) && is_listed alphabet b
    && not (is_dollar alphabet.dollars b after)

-- a byte that stands in a word by itself, before what is behind it
abbrev pub is_word_byte : Alphabet → ℕ → List ℕ → Bool
is_word_byte alphabet b after = not (is_white b) && not (is_special b) && not (is_listed alphabet b)
    && not (is_dollar alphabet.dollars b after)

-- a byte that stands in quotes by itself
abbrev pub is_quotable : ℕ → Bool
is_quotable b = not (is_control b) && not (b == 34) && not (b == 92)

-- a byte that stands in a comment by itself
abbrev pub is_comment_byte : ℕ → Bool
is_comment_byte b = not (b == 92) && not (b == 40) && not (b == 41)

-- bytes of a word that stands before a rest: a backslash stands with the byte that it quotes,
-- whatever that is
pub data InWord (alphabet : Alphabet) : List ℕ → List ℕ → Type 0 where
  word_nothing : (rest : List ℕ) → InWord alphabet [] rest
  word_plain : (b : ℕ) (more rest : List ℕ) → is_word_byte alphabet b (more ++ rest) ≡ true
      → InWord alphabet more rest → InWord alphabet (b ∷ more) rest
  word_escaped : (b : ℕ) (more rest : List ℕ) → InWord alphabet more rest
      → InWord alphabet (92 ∷ b ∷ more) rest
  word_doubled : (more rest : List ℕ) → is_doubled alphabet ≡ true → InWord alphabet more rest
      → InWord alphabet (36 ∷ 36 ∷ more) rest

-- what may stand between two double quotes: no byte below 32 and no 127, not behind a backslash
-- either
pub data InQuotes : List ℕ → Type 0 where
  quote_nothing : InQuotes []
  quote_plain : (b : ℕ) (more : List ℕ) → is_quotable b ≡ true → InQuotes more → InQuotes (b ∷ more)
  quote_escaped : (b : ℕ) (more : List ℕ) → is_control b ≡ false → InQuotes more
      → InQuotes (92 ∷ b ∷ more)

-- what may stand between two parentheses; comments nest
pub data InComment : List ℕ → Type 0 where
  comment_nothing : InComment []
  comment_plain : (b : ℕ) (more : List ℕ) → is_comment_byte b ≡ true → InComment more
      → InComment (b ∷ more)
  comment_escaped : (b : ℕ) (more : List ℕ) → InComment more → InComment (92 ∷ b ∷ more)
  comment_nested : (inside more : List ℕ) → InComment inside → InComment more
      → InComment (40 ∷ (inside ++ 41 ∷ more))

-- what a text is cut into
pub data Piece : Type 0 where
  White : (byte : ℕ) → Piece
  Comment : (bytes : List ℕ) → Piece
  Quotation : (bytes : List ℕ) → Piece
  Operator : (byte : ℕ) → Piece
  Dollar : (construct : Construct) → Piece
  Run : (bytes : List ℕ) → Piece

-- the bytes of the text that a piece has
abbrev pub bytes_of : Piece → List ℕ
bytes_of (White byte) = byte ∷ []
bytes_of (Comment bytes) = bytes
bytes_of (Quotation bytes) = bytes
bytes_of (Operator byte) = byte ∷ []
bytes_of (Dollar construct) = 36 ∷ after_dollar construct
bytes_of (Run bytes) = bytes

-- in parentheses
pub record IsComment (bytes : List ℕ) : Type 0 where
  pub inside : List ℕ
  pub whole : bytes ≡ 40 ∷ (inside ++ 41 ∷ [])
  pub is : InComment inside

-- in double quotes
pub record IsQuotation (bytes : List ℕ) : Type 0 where
  pub inside : List ℕ
  pub whole : bytes ≡ 34 ∷ (inside ++ 34 ∷ [])
  pub is : InQuotes inside

-- a word is not empty
pub record IsRun (alphabet : Alphabet) (bytes rest : List ℕ) : Type 0 where
  pub some : bytes ≢ []
  pub is : InWord alphabet bytes rest

-- the form of each piece, before what is behind it
abbrev pub IsPiece : Alphabet → Piece → List ℕ → Type 0
IsPiece alphabet (White byte) rest = is_white byte ≡ true
IsPiece alphabet (Comment bytes) rest = IsComment bytes
IsPiece alphabet (Quotation bytes) rest = IsQuotation bytes
IsPiece alphabet (Operator byte) rest = is_operator alphabet byte rest ≡ true
IsPiece alphabet (Dollar construct) rest = is_construct alphabet construct ≡ true
IsPiece alphabet (Run bytes) rest = IsRun alphabet bytes rest

-- each piece is one before those behind it
abbrev pub ArePieces : Alphabet → List Piece → List ℕ → Type 0
ArePieces alphabet [] rest = Unit {0}
ArePieces alphabet (piece ∷ pieces) rest =
    IsPiece alphabet piece (flat_map bytes_of pieces ++ rest) × ArePieces alphabet pieces rest

-- a word is never followed by a word
abbrev pub are_apart : List Piece → Bool
are_apart [] = true
are_apart (Run bytes ∷ []) = true
are_apart (Run bytes ∷ Run more ∷ pieces) = false
are_apart (piece ∷ pieces) = are_apart pieces

-- the pieces are a cutting of a text that stands before a rest
pub record CutsBefore (alphabet : Alphabet) (rest text : List ℕ)
    (pieces : List Piece) : Type 0 where
  pub whole : flat_map bytes_of pieces ≡ text
  pub each : ArePieces alphabet pieces rest
  pub apart : are_apart pieces ≡ true

-- the pieces are a cutting of the text
abbrev pub Cuts : Alphabet → List ℕ → List Piece → Type 0
Cuts alphabet text pieces = CutsBefore alphabet [] text pieces

-- ---- what the pieces give

-- each doubled dollar sign is one; what is behind a backslash stays
abbrev pub undoubled : List ℕ → List ℕ
undoubled [] = []
undoubled (b ∷ []) = b ∷ []
undoubled (b ∷ c ∷ bytes) = if b == 92 then b ∷ c ∷ undoubled bytes
    else if b == 36 && c == 36 then 36 ∷ undoubled bytes else b ∷ undoubled (c ∷ bytes)

-- the text of a word, in which a side of a rule writes a dollar sign twice
abbrev pub text_in : Dollars → List ℕ → List ℕ
text_in Bytes bytes = bytes
text_in Typed bytes = bytes
text_in Side bytes = undoubled bytes

-- what a construct is as a lexeme
abbrev pub lexeme_of : Dollars → Construct → Lexeme
lexeme_of Side (Single byte) = if byte == 36 then Plain (Op 36) else Metasign byte
lexeme_of dollars (Single byte) = Plain (Sign (mark_of byte))
lexeme_of dollars (Letter byte letter) = Named byte (letter ∷ [])
lexeme_of dollars (Braced byte name) = Named byte name

-- white space and comments give nothing
abbrev pub given_by : Dollars → Piece → List Lexeme
given_by dollars (White byte) = []
given_by dollars (Comment bytes) = []
given_by dollars (Quotation bytes) = Plain (Quoted (text_in dollars bytes)) ∷ []
given_by dollars (Operator byte) = Plain (Op byte) ∷ []
given_by dollars (Dollar construct) = lexeme_of dollars construct ∷ []
given_by dollars (Run bytes) = Plain (Word (text_in dollars bytes)) ∷ []

-- the lexemes of pieces
abbrev pub lexemes_of : Dollars → List Piece → List Lexeme
lexemes_of dollars pieces = flat_map (given_by dollars) pieces
