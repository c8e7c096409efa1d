-- What a reader of a stream keeps of it, and what it stands for.
use Rattle.std.specs.Prelude.{◌≡◌, ℕ, ◌+◌, Bool, true, false, List, [], ◌∷◌, ◌++◌, take}
use Rattle.std.specs.List.{list_any}
use Rattle.mail_base.specs.Limits.{most_message, most_command}
use Rattle.smtp_lines.specs.declared.line.Line.{Line}
use Rattle.smtp_lines.specs.declared.line.Mode.{Mode}
use Rattle.smtp_lines.specs.declared.line.Mode.TheVariants.{Commands, Message}
use Rattle.smtp_lines.specs.Stream.{has_end, ends_in_cr, asks, granted_mode, Reads}

-- whether the last of the lines asks; where there is none, as before
abbrev pub asked_after : Bool → List Line → Bool
asked_after asked [] = asked
asked_after asked (line ∷ lines) = asked_after (asks line) lines

-- a grant, if one is awaited
abbrev pub awaited : Bool → Bool → List Bool
awaited true grant = grant ∷ []
awaited false grant = []

-- how the stream goes on, if a grant is awaited by that grant
abbrev pub mode_by : Bool → Bool → Mode → Mode
mode_by true grant mode = granted_mode grant
mode_by false grant mode = mode

-- how much is kept of a line under way; one that may become a message's is kept as such
unfoldable pub most_kept : Mode → Bool → ℕ
most_kept Commands false = most_command
most_kept Commands true = most_message + 3
most_kept Message may_turn = most_message + 3

-- what is kept of the line under way, how it is read, and whether the stream may be turned to a
-- message
pub record Under : Type 0 where
  pub mode : Mode
  pub may_turn : Bool
  pub kept : List ℕ
  pub after_cr : Bool

-- the line under way has these bytes so far
pub record Holds (u : Under) (begun : List ℕ) : Type 0 where
  pub none : has_end u.mode begun ≡ false
  pub kept : u.kept ≡ take (most_kept u.mode u.may_turn) begun
  pub cr : ends_in_cr begun ≡ u.after_cr
  pub commands : u.may_turn ≡ true → u.mode ≡ Commands

-- what a reader holds: the line under way, and bytes that weren't read yet
pub record Reader : Type 0 where
  pub under : Under
  pub left : List ℕ

-- nothing was received
abbrev pub fresh : Reader
fresh = record {
  under = record { mode = Commands; may_turn = false; kept = []; after_cr = false };
  left = [];
}

-- a stream so far: its bytes, the grants of the lines that asked, but for one that is still
-- awaited, and the lines that were given
pub record Stream : Type 0 where
  pub received : List ℕ
  pub granted : List Bool
  pub lines : List Line

-- a reader stands for a stream where its lines were given and the bytes after them are kept or
-- left, whatever is answered to the last one that asked
pub record Stands (r : Reader) (s : Stream) : Type 0 where
  pub begun : List ℕ
  pub holds : Holds r.under begun
  pub reads : (grant : Bool)
      → Reads Commands s.received (s.granted ++ awaited r.under.may_turn grant) s.lines
      (mode_by r.under.may_turn grant r.under.mode) (begun ++ r.left)

-- the stream of which nothing has come
abbrev pub empty_stream : Stream
empty_stream = record { received = []; granted = []; lines = [] }

-- a piece has come
abbrev pub received : Stream → List ℕ → Stream
received s piece = record s { received = s.received ++ piece }

-- lines were given; where a line came after one that asked, that one was refused
abbrev pub given : Bool → Stream → List Line → Stream
given may_turn s [] = s
given may_turn s (line ∷ lines) =
    record s { granted = s.granted ++ awaited may_turn false; lines = s.lines ++ (line ∷ lines) }

-- the last line that asked was granted
abbrev pub granted : Stream → Stream
granted s = record s { granted = s.granted ++ true ∷ [] }

-- the last line that asked was refused
abbrev pub refused : Stream → Stream
refused s = record s { granted = s.granted ++ false ∷ [] }

-- a reader after a refusal: of the line under way no more is kept than of a command
abbrev pub refused_by : Reader → Reader
refused_by r =
    record r { under = record r.under { may_turn = false; kept = take most_command r.under.kept } }

-- these lines stand first among all
pub record StandsFirst (first all : List Line) : Type 0 where
  pub later : List Line
  pub is : all ≡ first ++ later

-- the grants of the lines that were given and asked; one that is still awaited counts as refused
abbrev pub HasGrants : Reader → Stream → List Bool → Type 0
HasGrants r s told = s.granted ++ awaited r.under.may_turn false ≡ told

-- no line but the last asks
abbrev pub OnlyLastAsks : List Line → Type 0
OnlyLastAsks lines =
    (front : List Line) (last : Line) → lines ≡ front ++ last ∷ [] → list_any asks front ≡ false

-- lines were given of the stream before, whose grants were these; where the last of them asks, its
-- grant comes next
pub record Gives (before : Stream) (told : List Bool) (lines : List Line) (new : Reader)
    (after : Stream) : Type 0 where
  pub stands : Stands new after
  pub received_is : after.received ≡ before.received
  pub lines_are : after.lines ≡ before.lines ++ lines
  pub quiet : asked_after false lines ≡ false → HasGrants new after told
  pub asking : asked_after false lines ≡ true → (after.granted ≡ told) × (new.under.may_turn ≡ true)
