-- The lexemes and the tokens of a text, and its first fault (Sendmail Installation and Operation
-- Guide, "R and S: Rewriting Rules"; RFC 5322 section 3.2).
use Rattle.std.specs.Prelude.{◌≡◌, ℕ, suc, zero, ◌+◌, ◌<◌, ◌≤◌, Bool, true, ◌==◌, List, [], ◌∷◌, ◌++◌, length, map, Option, Some, None, is_some, if◌then◌else◌}
use Rattle.std.specs.List.{flat_map}
use Rattle.addr_tokens.specs.declared.lexeme.Lexeme.{Lexeme}
use Rattle.addr_tokens.specs.declared.lexeme.Lexeme.TheVariants.{Token as Plain}
use Rattle.mail_base.specs.declared.token.Token.{Token}
use Rattle.mail_base.specs.declared.token.Token.TheVariants.{Op}
use Rattle.addr_tokens.specs.declared.fault.ScanFault.{ScanFault}
use Rattle.addr_tokens.specs.declared.fault.ScanFault.TheVariants.{Unbalanced, BadQuote, BadDollar, Long, NoMemory}
use Rattle.addr_tokens.specs.Pieces.{InQuotes, InComment, Alphabet, Piece, Operator, bytes_of, IsPiece, Cuts, CutsBefore, lexemes_of, is_control}

-- the most tokens that a text may have
unfoldable pub most_tokens : ℕ
most_tokens = 2000

-- after a `>`, if any `<` was open
abbrev pub less : Option ℕ → Option ℕ
less None = None
less (Some zero) = None
less (Some (suc n)) = Some n

-- how many `<` are open after the lexemes, where so many were before; none where a `>` has no open
-- `<` at its place
abbrev pub opened : Option ℕ → List Lexeme → Option ℕ
opened n [] = n
opened None (lexeme ∷ lexemes) = None
opened (Some n) (Plain (Op byte) ∷ lexemes) =
    opened
    (if byte == 60 then Some (suc n) else if byte == 62 then less (Some n) else Some n) lexemes
opened (Some n) (lexeme ∷ lexemes) = opened (Some n) lexemes

-- what is behind a parenthesis that nothing closes
pub data InOpen : List ℕ → Type 0 where
  here : (inside : List ℕ) → InComment inside → InOpen inside
  deeper : (inside more : List ℕ) → InComment inside → InOpen more → InOpen (inside ++ 40 ∷ more)

-- no piece begins the text
abbrev pub BeginsNone : Alphabet → List ℕ → Type 0
BeginsNone alphabet text = (piece : Piece) (rest : List ℕ) → IsPiece alphabet piece rest
    → text ≡ bytes_of piece ++ rest → ⊥

-- a text that no piece begins, with the fault that it is behind so many bytes
pub data Stops (alphabet : Alphabet) : List ℕ → ℕ → ScanFault → Type 0 where
  closing : (after : List ℕ) (place : ℕ) → Stops alphabet (41 ∷ after) place (Unbalanced place)
  opening : (inside : List ℕ) (place : ℕ) → InOpen inside
      → Stops alphabet (40 ∷ inside) place (Unbalanced place)
  opening_ended : (inside : List ℕ) (place : ℕ) → InOpen inside
      → Stops alphabet (40 ∷ (inside ++ 92 ∷ [])) place (BadQuote (place + length (40 ∷ inside)))
  backslash : (place : ℕ) → Stops alphabet (92 ∷ []) place (BadQuote place)
  quote : (inside : List ℕ) (place : ℕ) → InQuotes inside
      → Stops alphabet (34 ∷ inside) place (BadQuote place)
  quote_ended : (inside : List ℕ) (place : ℕ) → InQuotes inside
      → Stops alphabet (34 ∷ (inside ++ 92 ∷ [])) place (BadQuote (place + length (34 ∷ inside)))
  quoted_control : (inside : List ℕ) (b : ℕ) (after : List ℕ) (place : ℕ) → InQuotes inside
      → is_control b ≡ true
      → Stops alphabet (34 ∷ (inside ++ b ∷ after)) place (BadQuote (place + length (34 ∷ inside)))
  escaped_control : (inside : List ℕ) (b : ℕ) (after : List ℕ) (place : ℕ) → InQuotes inside
      → is_control b ≡ true
      → Stops alphabet (34 ∷ (inside ++ 92 ∷ b ∷ after)) place
      (BadQuote (place + length (34 ∷ inside) + 1))
  dollar : (after : List ℕ) (place : ℕ) → BeginsNone alphabet (36 ∷ after)
      → Stops alphabet (36 ∷ after) place (BadDollar place)

-- where angles are checked, each `>` of the lexemes has an open `<` at its place
abbrev pub MayGoOn : Bool → List Lexeme → Type 0
MayGoOn angles lexemes = angles ≡ true → is_some (opened (Some 0) lexemes) ≡ true

-- where angles are checked, each `>` has its `<`, and each `<` its `>`
abbrev pub AreBalanced : Bool → List Lexeme → Type 0
AreBalanced angles lexemes = angles ≡ true → opened (Some 0) lexemes ≡ Some 0

-- the lexemes that pieces give under an alphabet
abbrev pub given : Alphabet → List Piece → List Lexeme
given alphabet pieces = lexemes_of alphabet.dollars pieces

-- the lexemes of the text: what the pieces of a cutting give
pub record AreLexemes (alphabet : Alphabet) (angles : Bool) (text : List ℕ)
    (lexemes : List Lexeme) : Type 0 where
  pub pieces : List Piece
  pub cut : Cuts alphabet text pieces
  pub lexemes_are : given alphabet pieces ≡ lexemes
  pub balanced : AreBalanced angles lexemes
  pub short : length lexemes ≤ most_tokens

-- the tokens of the text: they are its lexemes
abbrev pub AreTokens : Alphabet → Bool → List ℕ → List Token → Type 0
AreTokens alphabet angles text tokens = AreLexemes alphabet angles text (map Plain tokens)

-- the first fault of the text. In each case the front is what was cut before it.
pub data HasFault (alphabet : Alphabet) (angles : Bool) : List ℕ → ScanFault → Type 0 where
  stops : (front rest : List ℕ) (pieces : List Piece) (fault : ScanFault)
      → CutsBefore alphabet rest front pieces → MayGoOn angles (given alphabet pieces)
      → Stops alphabet rest (length front) fault → HasFault alphabet angles (front ++ rest) fault
  right_angle : (front after : List ℕ) (pieces : List Piece) → angles ≡ true
      → CutsBefore alphabet (62 ∷ after) front pieces
      → opened (Some 0) (given alphabet pieces) ≡ Some 0
      → HasFault alphabet angles (front ++ 62 ∷ after) (Unbalanced (length front))
  left_angle : (text : List ℕ) (pieces more : List Piece) → angles ≡ true
      → Cuts alphabet text (pieces ++ Operator 60 ∷ more) → MayGoOn angles (given alphabet pieces)
      → opened (Some 0) (given alphabet more) ≡ Some 0
      → HasFault alphabet angles text (Unbalanced (length (flat_map bytes_of pieces)))
  long : (text : List ℕ) (pieces : List Piece) → Cuts alphabet text pieces
      → AreBalanced angles (given alphabet pieces) → most_tokens < length (given alphabet pieces)
      → HasFault alphabet angles text Long

-- why there are no tokens; want of memory is no fault of the text
abbrev pub ExplainsFault : Alphabet → Bool → List ℕ → ScanFault → Type 0
ExplainsFault alphabet angles text (Unbalanced place) =
    HasFault alphabet angles text (Unbalanced place)
ExplainsFault alphabet angles text (BadQuote place) = HasFault alphabet angles text (BadQuote place)
ExplainsFault alphabet angles text (BadDollar place) =
    HasFault alphabet angles text (BadDollar place)
ExplainsFault alphabet angles text Long = HasFault alphabet angles text Long
ExplainsFault alphabet angles text NoMemory = Unit {0}
