-- The pieces of a text with their places (RFC 5322 section 3.2).
use Rattle.std.specs.Prelude.{◌≡◌, ℕ, ◌+◌, Bool, List, [], ◌∷◌, length, Result, Ok, Err}
use Rattle.addr_tokens.specs.declared.fault.ScanFault.{ScanFault}
use Rattle.addr_tokens.specs.declared.fault.ScanFault.TheVariants.{Unbalanced, BadQuote, BadDollar, Long, NoMemory}
use Rattle.addr_tokens.specs.declared.span.PieceKind.{PieceKind}
use Rattle.addr_tokens.specs.declared.span.PieceKind.TheVariants as kind
use Rattle.addr_tokens.specs.declared.span.PieceSpan.{PieceSpan}
use Rattle.addr_tokens.specs.Pieces.{Alphabet, Piece, White, Comment, Quotation, Operator, Dollar, Run, bytes_of, Cuts}
use Rattle.addr_tokens.specs.Scans.{AreBalanced, HasFault, given}
use Rattle.addr_tokens.specs.Reader.{Answer, reading_of, judged}

-- what a piece is; where dollar signs mean nothing none begins a construct
abbrev pub kind_of : Piece → PieceKind
kind_of (White byte) = kind.White
kind_of (Comment bytes) = kind.Comment
kind_of (Quotation bytes) = kind.Quotation
kind_of (Operator byte) = kind.Operator byte
kind_of (Dollar construct) = kind.Run
kind_of (Run bytes) = kind.Run

-- a piece behind so many bytes
abbrev pub span_at : ℕ → Piece → PieceSpan
span_at place piece =
    record { kind = kind_of piece; start = place; length = length (bytes_of piece) }

-- pieces, the first behind so many bytes, each other behind the one before it
abbrev pub spans_from : ℕ → List Piece → List PieceSpan
spans_from place [] = []
spans_from place (piece ∷ pieces) =
    span_at place piece ∷ spans_from (place + length (bytes_of piece)) pieces

-- these are the pieces of a text: those of a cutting, with balanced angles where these are asked
-- for
pub record AreSpans (alphabet : Alphabet) (angles : Bool) (text : List ℕ)
    (spans : List PieceSpan) : Type 0 where
  pub pieces : List Piece
  pub cut : Cuts alphabet text pieces
  pub balanced : AreBalanced angles (given alphabet pieces)
  pub spans_are : spans_from 0 pieces ≡ spans

-- why a text has no pieces: its first fault, which isn't that they are many
abbrev pub ExplainsUncut : Alphabet → Bool → List ℕ → ScanFault → Type 0
ExplainsUncut alphabet angles text (Unbalanced place) =
    HasFault alphabet angles text (Unbalanced place)
ExplainsUncut alphabet angles text (BadQuote place) = HasFault alphabet angles text (BadQuote place)
ExplainsUncut alphabet angles text (BadDollar place) =
    HasFault alphabet angles text (BadDollar place)
ExplainsUncut alphabet angles text Long = ⊥
ExplainsUncut alphabet angles text NoMemory = Unit {0}

-- ---- computed

-- these, where the angles and what is behind the pieces are right
abbrev pub spans_if : List PieceSpan → Answer → Result (List PieceSpan) ScanFault
spans_if spans (Ok lexemes) = Ok spans
spans_if spans (Err fault) = Err fault

-- of what is left of a text, where so many bytes stand before it and these `<` are open
abbrev pub spans_on : Alphabet → Bool → ℕ → List ℕ → List ℕ → Result (List PieceSpan) ScanFault
spans_on alphabet angles place lefts text =
    let reading = reading_of alphabet place text in
    spans_if (spans_from place reading.pieces)
    (judged alphabet.dollars angles place lefts reading.pieces reading.fault)

-- the pieces of a text, or its first fault
abbrev pub spans_or_fault : Alphabet → Bool → List ℕ → Result (List PieceSpan) ScanFault
spans_or_fault alphabet angles text = spans_on alphabet angles 0 [] text
