-- How address test mode ends, and what it took and wrote by then (Sendmail Installation and
-- Operation Guide, "Address Testing Mode"; the ends are own).
use Rattle.std.specs.Prelude.{◌≡◌, ℕ, ◌^◌, ◌<◌, ◌≤◌, List, [], ◌∷◌, ◌++◌, length, Bool, true, false, ◌==◌, if◌then◌else◌, IfSome, ◌⊎◌}
use Rattle.std.specs.List.{list_any}
use Rattle.mail_base.specs.Histories.{Gains, Rose}
use Rattle.mail_edge.specs.Moves.{Loses, GainsPart}
use Rattle.sendmail_run.specs.declared.address_test.TestEnd.{TestEnd}
use Rattle.sendmail_run.specs.declared.address_test.TestEnd.TheVariants as ends
use Rattle.sendmail_run.specs.Devices.{Streams}
use Rattle.addr_test.specs.Forms.{is_quit}
use Rattle.cf_reader.specs.LogicalLines.{physical_lines}
use Rattle.sendmail_run.specs.Printing.{Basis, Prints}

-- the front of a text up to and including its last LF (10)
abbrev pub ended : List ℕ → List ℕ
ended [] = []
ended (b ∷ bs) = if list_any (λ c. c == 10) (b ∷ bs) then b ∷ ended bs else []

-- the lines that an LF ends
abbrev pub ended_lines : List ℕ → List (List ℕ)
ended_lines text = physical_lines (ended text)

-- a line `/quit` is among those that an LF ends
abbrev pub holds_quit : List ℕ → Bool
holds_quit text = list_any is_quit (ended_lines text)

-- these bytes were taken of the input
abbrev pub Takes : Streams → Streams → List ℕ → Type 0
Takes before after taken = Loses before.input.left after.input.left taken

-- this text was written
abbrev pub Writes : Streams → Streams → List ℕ → Type 0
Writes before after text = Gains before.output.written after.output.written text

-- where the input is told, nothing is left of it
abbrev pub IsAtEnd : Streams → Type 0
IsAtEnd after = IfSome after.input.left (λ left. left ≡ [])

-- the input came to its end before 2^32 bytes of it, or to the line `/quit` within these
abbrev pub IsOver : Streams → List ℕ → Type 0
IsOver after taken = (IsAtEnd after × (length taken < 2 ^ 32))
    ⊎ ((holds_quit taken ≡ true) × (length taken ≤ 2 ^ 32))

-- all lines up to the end of the input or `/quit` were answered
pub record IsDone (basis : Basis) (before after : Streams) : Type 0 where
  pub taken : List ℕ
  pub text : List ℕ
  pub takes : Takes before after taken
  pub writes : Writes before after text
  pub printed : Prints basis (physical_lines taken) text
  pub over : IsOver after taken

-- all lines that are ended were answered, and none of them is `/quit`
pub record IsCutOff (basis : Basis) (before after : Streams) (taken : List ℕ) : Type 0 where
  pub text : List ℕ
  pub takes : Takes before after taken
  pub writes : Writes before after text
  pub printed : Prints basis (ended_lines taken) text
  pub on : holds_quit taken ≡ false

-- these lines stand first among those that an LF ends, or at the input's end among all
abbrev pub StandFirst : Streams → List ℕ → List (List ℕ) → List (List ℕ) → Type 0
StandFirst after taken first later =
    (ended_lines taken ≡ first ++ later) ⊎ (IsAtEnd after × (physical_lines taken ≡ first ++ later))

-- what was written is a front of what the first lines of the input are answered with
pub record WritesFront (basis : Basis) (taken : List ℕ) (before after : Streams) : Type 0 where
  pub first : List (List ℕ)
  pub later : List (List ℕ)
  pub lines : StandFirst after taken first later
  pub text : List ℕ
  pub printed : Prints basis first text
  pub written : GainsPart before.output.written after.output.written text

-- the answers broke off, be it within a line
pub record IsBroken (basis : Basis) (before after : Streams) : Type 0 where
  pub taken : List ℕ
  pub few : length taken ≤ 2 ^ 32
  pub takes : Takes before after taken
  pub writes : WritesFront basis taken before after

-- the input failed before 2^32 bytes of it
pub record HasLostInput (basis : Basis) (before after : Streams) : Type 0 where
  pub taken : List ℕ
  pub few : length taken < 2 ^ 32
  pub cut : IsCutOff basis before after taken
  pub rose : Rose before.input.faults after.input.faults

-- 2^32 bytes came
pub record IsLarge (basis : Basis) (before after : Streams) : Type 0 where
  pub taken : List ℕ
  pub all : length taken ≡ 2 ^ 32
  pub cut : IsCutOff basis before after taken

-- how address test mode ends
abbrev pub Tests : Basis → Streams → Streams → TestEnd → Type 0
Tests basis before after ends.Done = IsDone basis before after
Tests basis before after ends.ReadFault = HasLostInput basis before after
Tests basis before after ends.InputLarge = IsLarge basis before after
Tests basis before after ends.WriteFault =
    IsBroken basis before after × Rose before.output.faults after.output.faults
Tests basis before after ends.NoMemory = IsBroken basis before after
