-- What private contracts say of a whole text.
use Rattle.std.specs.Prelude.{◌≡◌, ◌≤◌, ℕ, ◌+◌, Bool, true, false, List, ◌++◌, length, take, drop}
use Rattle.mail_base.specs.Texts.{crlf}
use Rattle.mail_header.specs.Headers.{is_header, is_continuation}
use Rattle.mail_header.specs.Lines.{belongs}

-- a text begins with a line of the header block, of so many bytes without its end
pub record BeginsLine (begun : Bool) (text : List ℕ) (end : ℕ) : Type 0 where
  pub within : end + 2 ≤ length text
  pub whole : text ≡ take end text ++ (crlf ++ drop (end + 2) text)
  pub belongs : belongs begun (take end text) ≡ true

-- it begins with none
abbrev pub NoLine : Bool → List ℕ → Type 0
NoLine begun text = (line more : List ℕ) → text ≡ line ++ (crlf ++ more)
    → (is_header line ≡ false) × (begun ≡ true → is_continuation line ≡ false)
