-- What private contracts say of one line of a body.
use Rattle.std.specs.Prelude.{◌≡◌, ◌<◌, ℕ, ◌+◌, ◌-◌, ◌==◌, List, [], ◌∷◌, ◌++◌, length, take, drop, slice_index, if◌then◌else◌}
use Rattle.mail_header.specs.Outgoing.{with_ends}

-- a line that an LF ends, as it is given: with the end where a CR stands before the LF
abbrev pub ended_line : List ℕ → List ℕ → List ℕ
ended_line end line =
    if slice_index line (length line - 1) == 13 then take (length line - 1) line ++ end
    else line ++ 10 ∷ []

-- a body's first line ends at the LF at that place
pub record EndsLine (body : List ℕ) (feed : ℕ) : Type 0 where
  pub within : feed < length body
  pub given : (end : List ℕ) → with_ends end body
      ≡ ended_line end (take feed body) ++ with_ends end (drop (feed + 1) body)

-- nothing in a text is another end
abbrev pub StaysWhole : List ℕ → Type 0
StaysWhole body = (end : List ℕ) → with_ends end body ≡ body
