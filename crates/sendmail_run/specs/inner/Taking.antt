-- Where the answers to the lines of input stand, as code has them.
use Rattle.std.specs.Prelude.{◌≡◌, ℕ, ◌+◌, ◌≤◌, ◌^◌, List, [], ◌∷◌, ◌++◌, length, map, take, Bool, true, false, nat_lt, ◌==◌, if◌then◌else◌, codes}
use Rattle.std.specs.List.{list_any, flat_map}
use Rattle.std.specs.Str.Lines.{strip_carriage_return}
use Rattle.addr_test.specs.Forms.{is_quit}
use Rattle.addr_test.specs.Printing.{Printed}
use Rattle.addr_test.specs.Texts.{line_of}
use Rattle.mail_base.specs.Limits.{most_line}
use Rattle.mail_base.specs.declared.config.Config.{Config}
use Rattle.sendmail_run.specs.declared.input.Partial.{Partial}
use Rattle.sendmail_run.specs.declared.address_test.Step.{Step}
use Rattle.sendmail_run.specs.declared.address_test.Step.TheVariants.{On, Ended}
use Rattle.sendmail_run.specs.declared.outcome.Outcome.TheVariants.{WriteFault}
use Rattle.sendmail_run.specs.Printing.{Basis, warnings_text}
use Rattle.cf_reader.specs.LogicalLines.{physical_lines}
use Rattle.sendmail_run.specs.Devices.{Streams}
use Rattle.sendmail_run.specs.Outcomes.{of_test}
use Rattle.sendmail_run.specs.Rises.{RisesOnlyAt}
use Rattle.sendmail_run.specs.Testing.{Tests, Takes, Writes, ended_lines, holds_quit}

abbrev pub has_end : List ℕ → Bool
has_end text = list_any (λ c. c == 10) text

abbrev pub with_end : List ℕ → List ℕ
with_end raw = raw ++ 10 ∷ []

abbrev pub lines_of : List (List ℕ) → List (List ℕ)
lines_of raws = map strip_carriage_return raws

-- the most bytes that are kept of a line: those of the longest, and a CR before its LF
unfoldable pub most_kept : ℕ
most_kept = most_line + 1

-- what is kept of a line, of which so much came
pub record Keeps (partial : Partial) (rest : List ℕ) : Type 0 where
  pub front : partial.front ≡ take most_kept rest
  pub cut : partial.is_cut ≡ nat_lt most_kept (length rest)

-- a text is these lines, each with its LF, and the rest
pub record Cut (taken : List ℕ) (raws : List (List ℕ)) (rest : List ℕ) : Type 0 where
  pub whole : taken ≡ flat_map with_end raws ++ rest
  pub each : list_any has_end raws ≡ false
  pub last : has_end rest ≡ false

-- the ended lines of what was taken are answered with the text, and leave this configuration; the
-- rest is kept
pub record Stands (basis : Basis) (current : Config) (taken : List ℕ) (partial : Partial)
    (text : List ℕ) : Type 0 where
  pub raws : List (List ℕ)
  pub rest : List ℕ
  pub cut : Cut taken raws rest
  pub printed : Printed basis.maps basis.config (lines_of raws) text current
  pub on : list_any is_quit (lines_of raws) ≡ false
  pub keeps : Keeps partial rest

-- the line `/quit` came, and the lines before it are answered with the text
pub record Quits (basis : Basis) (taken : List ℕ) (text : List ℕ) : Type 0 where
  pub last : Config
  pub printed : Printed basis.maps basis.config (physical_lines taken) text last
  pub among : Printed basis.maps basis.config (ended_lines taken) text last
  pub quit : holds_quit taken ≡ true

-- the answer to a line that is too long, by its front
abbrev pub cut_text : List ℕ → List ℕ
cut_text [] = line_of (codes "line too long")
cut_text (b ∷ bs) = if b == 35 then [] else line_of (codes "line too long")

-- the text holds the answers to the lines that bytes end, up to the line `/quit` where that is
-- among them
abbrev pub Answered : Basis → Config → List ℕ → Partial → List ℕ → Bool → Type 0
Answered basis current taken partial text true = Quits basis taken text
Answered basis current taken partial text false = Stands basis current taken partial text

-- all these bytes were taken since the start, and the warnings and the answers to the ended lines
-- of a front of them were written
pub record At (basis : Basis) (current : Config) (before now : Streams) (all taken : List ℕ)
    (partial : Partial) : Type 0 where
  pub few : length all ≤ 2 ^ 32
  pub text : List ℕ
  pub takes : Takes before now all
  pub writes : Writes before now (warnings_text basis.config.warnings ++ text)
  pub stands : Stands basis current taken partial text
  pub input : before.input.faults ≤ now.input.faults
  pub output : before.output.faults ≤ now.output.faults

-- a piece of the input was answered, or it ended the run
abbrev pub Went : Basis → Config → Streams → Streams → List ℕ → Partial → Step → Type 0
Went basis current before now all partial On = At basis current before now all all partial
Went basis current before now all partial (Ended how) = Tests basis before now how

-- the output's count has risen only where its fault ended the run
abbrev pub RisesOnlyIn : Step → ℕ → ℕ → Type 0
RisesOnlyIn On before after = after ≡ before
RisesOnlyIn (Ended how) before after = RisesOnlyAt WriteFault (of_test how) before after
