-- The headers and the body of a message (RFC 5322, sections 2.1, 2.2 and 2.2.3; that a name is any
-- bytes from 33 to 126 but a colon is of section 3.6.8).
use Rattle.std.specs.Prelude.{◌≡◌, ℕ, slice_index, ◌==◌, nat_lt, nat_le, Bool, true, false, not, ◌||◌, ◌&&◌, List, [], ◌∷◌, ◌++◌, length}
use Rattle.std.specs.List.{list_all, prefix_len, flat_map}
use Rattle.mail_base.specs.Texts.{is_blank, crlf}
use Rattle.mail_base.specs.declared.message.Split.{Split}

-- a byte of a header's name
abbrev pub is_name_byte : ℕ → Bool
is_name_byte b = nat_le 33 b && nat_le b 126 && not (b == 58)

-- neither CR nor LF
abbrev pub is_plain : ℕ → Bool
is_plain b = not (b == 13) && not (b == 10)

-- the same, where its name has so many bytes
abbrev pub is_header_by : List ℕ → ℕ → Bool
is_header_by line n =
    (nat_lt 0 n && nat_lt n (length line)) && (slice_index line n == 58 && list_all is_plain line)

-- a header's first line: a name, a colon, bytes without CR or LF
abbrev pub is_header : List ℕ → Bool
is_header line = is_header_by line (prefix_len is_name_byte line)

-- a line that goes on with a header
abbrev pub is_continuation : List ℕ → Bool
is_continuation line = is_blank (slice_index line 0) && list_all is_plain line

-- lines that go on with a header, with CR LF between them
pub data IsFolded : List ℕ → Type 0 where
  last_fold : (line : List ℕ) → is_continuation line ≡ true → IsFolded line
  one_fold : (line more : List ℕ) → is_continuation line ≡ true → IsFolded more
      → IsFolded (line ++ (crlf ++ more))

-- a header: its first line, and the lines that go on with it
pub data IsHeaderText : List ℕ → Type 0 where
  unfolded : (line : List ℕ) → is_header line ≡ true → IsHeaderText line
  folded : (line more : List ℕ) → is_header line ≡ true → IsFolded more
      → IsHeaderText (line ++ (crlf ++ more))

pub data AreHeaders : List (List ℕ) → Type 0 where
  no_headers : AreHeaders []
  one_header : (header : List ℕ) (headers : List (List ℕ)) → IsHeaderText header
      → AreHeaders headers → AreHeaders (header ∷ headers)

abbrev pub with_end : List ℕ → List ℕ
with_end line = line ++ crlf

-- lines, each with its CR LF
abbrev pub text_of : List (List ℕ) → List ℕ
text_of lines = flat_map with_end lines

abbrev pub is_some_line : List (List ℕ) → Bool
is_some_line [] = false
is_some_line (line ∷ lines) = true

-- a text begins with no line that would be one of the headers before it; a last line without CR LF
-- is none
abbrev pub EndsHeaders : List (List ℕ) → List ℕ → Type 0
EndsHeaders headers rest = (line more : List ℕ) → rest ≡ line ++ (crlf ++ more)
    → (is_header line ≡ false) × (is_some_line headers ≡ true → is_continuation line ≡ false)

-- the body of what is behind the headers: an empty line is dropped where it stands first
pub data IsBody : List ℕ → List ℕ → Type 0 where
  behind_empty_line : (body : List ℕ) → IsBody (crlf ++ body) body
  at_once : (body : List ℕ) → ((more : List ℕ) → ¬ (body ≡ crlf ++ more)) → IsBody body body

-- a message's text is its headers, each with CR LF, and then its body; block is the size of the
-- headers with these ends
pub record IsSplit (message : List ℕ) (split : Split) : Type 0 where
  pub rest : List ℕ
  pub whole : message ≡ text_of split.headers ++ rest
  pub are : AreHeaders split.headers
  pub ends : EndsHeaders split.headers rest
  pub body : IsBody rest split.body
  pub block : split.block ≡ length (text_of split.headers)

-- whether CR LF stands in a text
abbrev pub has_crlf : List ℕ → Bool
has_crlf [] = false
has_crlf (b ∷ text) = ((b == 13 && slice_index text 0 == 10) || has_crlf text)

-- lines without their ends
pub data AreLines : List (List ℕ) → Type 0 where
  no_lines : AreLines []
  one_line : (line : List ℕ) (lines : List (List ℕ)) → has_crlf line ≡ false → AreLines lines
      → AreLines (line ∷ lines)
