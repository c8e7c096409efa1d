-- What a run takes of its standard input that hands a message over (RFC 5321, section 4.1.1.4; the
-- manual page of Sendmail's own program, -i; what is too large is own).
use Rattle.std.specs.Prelude.{◌≡◌, ◌⊎◌, ℕ, ◌<◌, ◌≤◌, List, [], length, Bool, true, IfSome}
use Rattle.mail_edge.specs.Moves.{Loses}
use Rattle.mail_edge.specs.Seen.{SourceSeen}
use Rattle.mail_submit.specs.Inputs.{message_of, read, size_of}

-- these bytes were taken of the input: they are a front of what was left, where that is told
abbrev pub Takes : SourceSeen → SourceSeen → List ℕ → Type 0
Takes before after taken = Loses before.left after.left taken

-- some bytes were taken
abbrev pub TakesSome : SourceSeen → SourceSeen → Type 0
TakesSome before after = (taken : List ℕ) × Takes before after taken

-- where the input is told, nothing is left of it
abbrev pub IsAtEnd : SourceSeen → Type 0
IsAtEnd after = IfSome after.left (λ left. left ≡ [])

-- the input was read to its end, or to the line `.` where that ends it; its message is this text,
-- of so many bytes at most
pub record IsRead (dot : Bool) (most : ℕ) (before after : SourceSeen) (text : List ℕ)
    : Type 0 where
  pub taken : List ℕ
  pub takes : Takes before after taken
  pub over : ((read dot taken).ended ≡ true) ⊎ IsAtEnd after
  pub is : text ≡ message_of dot (read dot taken)
  pub within : length text ≤ most

-- what was taken counts more than so many bytes, or its message has more
pub record IsLarge (dot : Bool) (most : ℕ) (before after : SourceSeen) : Type 0 where
  pub taken : List ℕ
  pub takes : Takes before after taken
  pub large : (most < size_of (read dot taken)) ⊎ (most < length (message_of dot (read dot taken)))
