-- What contracts see of the reader's values.
use Rattle.std.specs.Prelude.{◌≡◌, ℕ, ◌+◌, ◌-◌, ◌≤◌, ◌<◌, true, List, [], ◌∷◌, length, take, drop, slice_index, Option, Some, None, Result, Ok, Err}
use Rattle.addr_tokens.specs.declared.fault.ScanFault.{ScanFault}
use Rattle.mail_base.specs.declared.token.Token.{Token}
use Rattle.mail_base.specs.declared.token.Token.TheVariants.{Word, Quoted, Op, Sign}
use Rattle.addr_tokens.specs.declared.lexeme.Dollars.{Dollars}
use Rattle.addr_tokens.specs.declared.lexeme.Dollars.TheVariants.{Side}
use Rattle.addr_tokens.specs.declared.lexeme.Lexeme.{Lexeme}
use Rattle.addr_tokens.specs.declared.lexeme.Lexeme.TheVariants.{Token as Plain}
use Rattle.addr_tokens.specs.declared.ending.Ending as code
use Rattle.addr_tokens.specs.declared.ending.Ending.TheVariants.{Closed as ClosedAt, Unclosed as Nowhere, Bad as BadAt}
use Rattle.addr_tokens.specs.declared.construct.Construct as form
use Rattle.addr_tokens.specs.declared.construct.Construct.TheVariants as construct
use Rattle.addr_tokens.specs.declared.front.Front.{Front}
use Rattle.addr_tokens.specs.declared.front.Front.TheVariants as front
use Rattle.addr_tokens.specs.Pieces.{Construct, Single, Letter, Braced, Piece, White, Comment, Quotation, Operator, Dollar, Run, is_side, mark_of, lexeme_of, undoubled}
use Rattle.addr_tokens.specs.Reader.{Ending, Closed, Unclosed, Bad, First}

-- an ending that has places in the text
abbrev pub ending_in : List ℕ → code.Ending → Ending
ending_in text (ClosedAt n) = Closed (drop n text)
ending_in text Nowhere = Unclosed
ending_in text (BadAt n) = Bad (length text - n)

-- the places are in the text
abbrev pub IsWithin : List ℕ → code.Ending → Type 0
IsWithin text (ClosedAt n) = n ≤ length text
IsWithin text Nowhere = Unit {0}
IsWithin text (BadAt n) = n < length text

-- how many bytes a construct has behind its dollar sign
abbrev pub size_behind : form.Construct → ℕ
size_behind (construct.Single byte) = 1
size_behind (construct.Letter byte letter) = 2
size_behind (construct.Braced byte n) = n + 3

-- the construct whose dollar sign stands before the text
abbrev pub construct_in : form.Construct → List ℕ → Construct
construct_in (construct.Single byte) text = Single byte
construct_in (construct.Letter byte letter) text = Letter byte letter
construct_in (construct.Braced byte n) text = Braced byte (take n (drop 2 text))

-- what is read behind a dollar sign
abbrev pub construct_read : List ℕ → Result form.Construct ScanFault → First
construct_read text (Ok found) =
    Ok (Dollar (construct_in found text), drop (size_behind found) text)
construct_read text (Err fault) = Err fault

-- what is read in braces
abbrev pub braces_read : List ℕ → Option ℕ → Option (List ℕ × List ℕ)
braces_read text None = None
braces_read text (Some n) = Some (take n text, drop (n + 1) text)

-- how many bytes the front has
abbrev pub size_of : Front → ℕ
size_of front.White = 1
size_of (front.Comment n) = n
size_of (front.Quotation n) = n
size_of (front.Operator byte) = 1
size_of (front.Dollar construct) = size_behind construct + 1
size_of (front.Run n) = n

-- the piece that the text begins with
abbrev pub piece_of : Front → List ℕ → Piece
piece_of front.White text = White (slice_index text 0)
piece_of (front.Comment n) text = Comment (take n text)
piece_of (front.Quotation n) text = Quotation (take n text)
piece_of (front.Operator byte) text = Operator byte
piece_of (front.Dollar construct) text = Dollar (construct_in construct (drop 1 text))
piece_of (front.Run n) text = Run (take n text)

-- what is read at the front of a text
abbrev pub front_read : List ℕ → Result Front ScanFault → First
front_read text (Ok found) = Ok (piece_of found text, drop (size_of found) text)
front_read text (Err fault) = Err fault

-- a name stands in rules' sides alone
abbrev pub Suits : Dollars → Front → Type 0
Suits dollars (front.Dollar (construct.Letter byte letter)) = is_side dollars ≡ true
Suits dollars (front.Dollar (construct.Braced byte n)) = is_side dollars ≡ true
Suits dollars front = Unit {0}

-- the token that the piece gives outside of rules' sides
abbrev pub token_at : Front → List ℕ → Option Token
token_at front.White text = None
token_at (front.Comment n) text = None
token_at (front.Quotation n) text = Some (Quoted (take n text))
token_at (front.Operator byte) text = Some (Op byte)
token_at (front.Dollar (construct.Single byte)) text = Some (Sign (mark_of byte))
token_at (front.Dollar (construct.Letter byte letter)) text = None
token_at (front.Dollar (construct.Braced byte n)) text = None
token_at (front.Run n) text = Some (Word (take n text))

-- the lexeme that it gives in one
abbrev pub lexeme_at : Front → List ℕ → Option Lexeme
lexeme_at front.White text = None
lexeme_at (front.Comment n) text = None
lexeme_at (front.Quotation n) text = Some (Plain (Quoted (undoubled (take n text))))
lexeme_at (front.Operator byte) text = Some (Plain (Op byte))
lexeme_at (front.Dollar found) text = Some (lexeme_of Side (construct_in found (drop 1 text)))
lexeme_at (front.Run n) text = Some (Plain (Word (undoubled (take n text))))

-- what is given, as lexemes
abbrev pub seen_in : {A : Type 0} → (A → Lexeme) → Option A → List Lexeme
seen_in seen None = []
seen_in seen (Some given) = seen given ∷ []
