-- How lines are split into headers and body, by which a session's messages go. The contract of
-- `split` is by the grammar of Headers; the law `messages_are_split` of a session says that the two
-- are one.
use Rattle.std.specs.Prelude.{ℕ, ◌+◌, Bool, true, false, ◌||◌, ◌&&◌, List, [], ◌∷◌, ◌++◌, length, sum_by, if◌then◌else◌}
use Rattle.std.specs.List.{flat_map}
use Rattle.mail_base.specs.Texts.{crlf}
use Rattle.mail_header.specs.Headers.{is_header, is_continuation, with_end}

-- whether a line stands in the header block, by whether it has begun
abbrev pub belongs : Bool → List ℕ → Bool
belongs begun line = is_header line || (begun && is_continuation line)

-- the lines of the header block, by whether it has begun
abbrev pub block_of : Bool → List (List ℕ) → List (List ℕ)
block_of begun [] = []
block_of begun (line ∷ lines) = if belongs begun line then line ∷ block_of true lines else []

-- the lines after the header block
abbrev pub rest_of : Bool → List (List ℕ) → List (List ℕ)
rest_of begun [] = []
rest_of begun (line ∷ lines) = if belongs begun line then rest_of true lines else line ∷ lines

-- whether the first line goes on with a header
abbrev pub goes_on : List (List ℕ) → Bool
goes_on [] = false
goes_on (line ∷ lines) = is_continuation line

-- a line put before headers, or onto the first of them
abbrev pub joined : List ℕ → Bool → List (List ℕ) → List (List ℕ)
joined line false headers = line ∷ headers
joined line true [] = line ∷ []
joined line true (header ∷ headers) = (line ++ (crlf ++ header)) ∷ headers

-- the headers of the header block's lines, each with the lines that go on with it
abbrev pub headers_in : List (List ℕ) → List (List ℕ)
headers_in [] = []
headers_in (line ∷ lines) = joined line (goes_on lines) (headers_in lines)

abbrev pub headers_of : List (List ℕ) → List (List ℕ)
headers_of lines = headers_in (block_of false lines)

-- without the empty line that may stand after the headers
abbrev pub without_empty : List (List ℕ) → List (List ℕ)
without_empty [] = []
without_empty ([] ∷ lines) = lines
without_empty ((b ∷ line) ∷ lines) = (b ∷ line) ∷ lines

-- the body: the lines after the headers, each with its CR LF
abbrev pub body_of : List (List ℕ) → List ℕ
body_of lines = flat_map with_end (without_empty (rest_of false lines))

-- the bytes of lines with their CR LF
abbrev pub size_of : List (List ℕ) → ℕ
size_of lines = sum_by (λ line. length line + 2) lines
