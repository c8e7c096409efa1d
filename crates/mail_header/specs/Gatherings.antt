-- What is kept of a message whose lines come one by one.
use Rattle.std.specs.Prelude.{◌≡◌, ◌≤◌, ℕ, ◌+◌, nat_lt, length, Bool, true, false, List, [], min}
use Rattle.mail_base.specs.Limits.{most_headers}
use Rattle.mail_header.specs.declared.gathered.Gathered.{Gathered}
use Rattle.mail_header.specs.Headers.{is_some_line, text_of}
use Rattle.mail_header.specs.Lines.{headers_of, body_of, block_of, rest_of, size_of}

-- a size that counts no further once it is above its limit
unfoldable pub counted : ℕ → ℕ → ℕ
counted limit size = min size (limit + 1)

-- a size is above its limit
abbrev pub is_above : ℕ → ℕ → Bool
is_above limit size = nat_lt limit size

-- headers, unless they are above their limit
abbrev pub unless : Bool → List (List ℕ) → List (List ℕ)
unless true headers = []
unless false headers = headers

-- what is kept is the split of the lines, without headers above their limit
pub record KeepsSplit (g : Gathered) (lines : List (List ℕ)) : Type 0 where
  pub headers : g.headers ≡ unless (is_above most_headers g.block) (headers_of lines)
  pub has_header : g.has_header ≡ is_some_line (block_of false lines)
  pub block : g.block ≡ counted most_headers (size_of (block_of false lines))
  pub body : g.body ≡ body_of lines
  pub has_body : g.has_body ≡ is_some_line (rest_of false lines)

-- no byte of the lines is kept
pub record IsGone (g : Gathered) : Type 0 where
  pub headers : g.headers ≡ []
  pub body : g.body ≡ []

-- what is kept of the lines of a message with this limit: their split, or nothing where they are
-- above it
pub record Gathers (g : Gathered) (limit : ℕ) (lines : List (List ℕ)) : Type 0 where
  pub size : g.size ≡ counted limit (size_of lines)
  pub split : is_above limit g.size ≡ false → KeepsSplit g lines
  pub gone : is_above limit g.size ≡ true → IsGone g

-- the bytes that are kept are within the limits: those of the headers, each with its CR LF, and
-- these with those of the body
pub record IsSmall (g : Gathered) (limit : ℕ) : Type 0 where
  pub headers : length (text_of g.headers) ≤ most_headers
  pub all : length (text_of g.headers) + length g.body ≤ limit
