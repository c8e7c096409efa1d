-- What private contracts say of a line that is added to the header block.
use Rattle.std.specs.Prelude.{◌≡◌, ℕ, ◌+◌, length, true, List, [], ◌∷◌, ◌++◌, if◌then◌else◌}
use Rattle.mail_base.specs.Limits.{most_headers}
use Rattle.mail_base.specs.Texts.{crlf}
use Rattle.mail_header.specs.declared.gathered.Gathered.{Gathered}
use Rattle.mail_header.specs.Headers.{is_continuation}
use Rattle.mail_header.specs.Gatherings.{counted, is_above, unless}

-- a line put onto the last header, or alone
abbrev pub onto_last : List ℕ → List (List ℕ) → List (List ℕ)
onto_last line [] = line ∷ []
onto_last line (header ∷ []) = (header ++ (crlf ++ line)) ∷ []
onto_last line (header ∷ next ∷ headers) = header ∷ onto_last line (next ∷ headers)

-- the headers with one more line of the header block
abbrev pub header_added : List ℕ → List (List ℕ) → List (List ℕ)
header_added line headers =
    if is_continuation line then onto_last line headers else headers ++ line ∷ []

-- a line of the header block was added, and the rest stays
pub record AddsHeader (old new : Gathered) (line : List ℕ) : Type 0 where
  pub size : new.size ≡ old.size
  pub block : new.block ≡ counted most_headers (old.block + length line + 2)
  pub headers : new.headers
      ≡ unless (is_above most_headers new.block) (header_added line old.headers)
  pub has_header : new.has_header ≡ true
  pub body : new.body ≡ old.body
  pub has_body : new.has_body ≡ old.has_body
