-- The lines of a message that a program hands over on standard input (RFC 5322, section 2.1; RFC
-- 5321, section 4.1.1.4; the manual page of Sendmail's own program, -i; what counts towards a limit
-- is our own).
use Rattle.std.specs.Prelude.{◌≡◌, ℕ, ◌+◌, Bool, true, false, not, ◌&&◌, ◌==◌, List, [], ◌∷◌, ◌++◌, length, fold, bytes_eq, if◌then◌else◌, codes, refl}
use Rattle.std.specs.Str.Lines.{strip_carriage_return}
use Rattle.mail_header.specs.Fields.{is_feed}
use Rattle.mail_header.specs.Headers.{text_of}
use Rattle.mail_submit.specs.declared.held.Held.{Held}

-- what bytes of input are so far: the lines that an LF ended, without that and a CR before it; the
-- bytes behind these; and whether an LF ended the line `.`, behind which no byte counts
pub record Reading : Type 0 where
  pub lines : List (List ℕ)
  pub line : List ℕ
  pub ended : Bool

-- whether a line is `.`, with a CR behind it or without
abbrev pub is_dot : List ℕ → Bool
is_dot line = bytes_eq (strip_carriage_return line) (codes ".")

-- an LF more, where the line `.` ends input or doesn't
abbrev pub with_feed : Bool → Reading → Reading
with_feed dot r = if dot && is_dot r.line then record r { ended = true }
    else record r { lines = r.lines ++ strip_carriage_return r.line ∷ []; line = [] }

-- a byte more
abbrev pub with_byte : Bool → Reading → ℕ → Reading
with_byte dot r b = if r.ended then r
    else if is_feed b then with_feed dot r else record r { line = r.line ++ b ∷ [] }

abbrev pub nothing : Reading
nothing = record { lines = []; line = []; ended = false }

abbrev pub read : Bool → List ℕ → Reading
read dot bytes = fold (with_byte dot) nothing bytes

-- what counts of bytes that no LF ended: not a CR at their end, and not a lone `.`
abbrev pub counted : List ℕ → ℕ
counted line = if is_dot line then 0 else length (strip_carriage_return line)

-- what counts towards a limit: each line with CR LF, and what no LF ended
abbrev pub size_of : Reading → ℕ
size_of r = length (text_of r.lines) + counted r.line

-- at the end of input bytes that no LF ended are a line, as if one did
abbrev pub is_last : Bool → List ℕ → Bool
is_last dot line = not (length line == 0) && not (dot && is_dot line)

abbrev pub last_line : Bool → List ℕ → List (List ℕ)
last_line dot line = if is_last dot line then strip_carriage_return line ∷ [] else []

-- the message at the end of input: its lines, each with CR LF
abbrev pub message_of : Bool → Reading → List ℕ
message_of dot r = text_of (r.lines ++ last_line dot r.line)

-- lines end at LF or CR LF, and the line `.` ends input where it counts
example :
    (read true (codes "a\r\nb\n.\nc")
    ≡ record { lines = codes "a" ∷ codes "b" ∷ []; line = codes "."; ended = true })
    × (message_of true (read true (codes "a\r\nb\n.\nc")) ≡ codes "a\r\nb\r\n")
    × (message_of false (read false (codes "a\n.\nc")) ≡ codes "a\r\n.\r\nc\r\n")
    × (message_of true (read true (codes "a\n.")) ≡ codes "a\r\n")
    × (size_of (read true (codes "a\nbc\r")) ≡ 5) × (size_of (read true (codes "a\n.")) ≡ 3)
example = (refl, refl, refl, refl, refl, refl)

-- what is held of a reading: its lines, each with CR LF, and the bytes behind them
pub record Stands (h : Held) (dot : Bool) (r : Reading) : Type 0 where
  pub counts : h.dot ≡ dot
  pub text : h.buffer.text ≡ text_of r.lines
  pub line : h.buffer.line ≡ r.line
  pub ended : h.ended ≡ r.ended

-- what is held of the bytes of input so far, however these were cut into pieces
abbrev pub Holds : Held → Bool → List ℕ → Type 0
Holds h dot bytes = Stands h dot (read dot bytes)
