-- What private contracts say of the bytes that a reader reads.
use Rattle.std.specs.Prelude.{◌≡◌, ℕ, ◌+◌, ◌≤◌, Bool, true, false, List, [], ◌∷◌, ◌++◌, take, drop, Option, Some, None}
use Rattle.mail_base.specs.Limits.{most_message, most_command}
use Rattle.smtp_lines.specs.declared.line.Line.{Line}
use Rattle.smtp_lines.specs.declared.line.Mode.{Mode}
use Rattle.smtp_lines.specs.declared.line.Mode.TheVariants.{Commands, Message}
use Rattle.smtp_lines.specs.Stream.{end_of, has_end, ends_in_cr, Reads}
use Rattle.smtp_lines.specs.Reader.{Holds, Under, asked_after, awaited, mode_by}

-- a line ends in the first n bytes after what was begun
pub record EndsAt (mode : Mode) (begun bytes : List ℕ) (n : ℕ) : Type 0 where
  pub content : List ℕ
  pub whole : begun ++ take n bytes ≡ content ++ end_of mode
  pub none : has_end mode content ≡ false

-- the first line end after what was begun, if there is one
abbrev pub Ends : Mode → List ℕ → List ℕ → Option ℕ → Type 0
Ends mode begun bytes None = has_end mode (begun ++ bytes) ≡ false
Ends mode begun bytes (Some n) = EndsAt mode begun bytes n

-- how much of a line under way tells what it will be, whatever comes after it
unfoldable pub enough : Mode → ℕ
enough Commands = most_command
enough Message = most_message + 3

-- what is kept of a line under way is all of it, or its front where that is enough
pub record IsKept (mode : Mode) (begun kept : List ℕ) : Type 0 where
  pub most : ℕ
  pub enough : enough mode ≤ most
  pub is : kept ≡ take most begun

-- the lines that end in the bytes after what was begun, up to one that asks
pub record ReadsOn (mode : Mode) (begun bytes : List ℕ) (lines : List Line) (now : Mode) (used : ℕ)
    (asked : Bool) : Type 0 where
  pub asks : asked ≡ asked_after false lines
  pub commands : asked ≡ true → now ≡ Commands
  pub none : lines ≡ [] → has_end mode (begun ++ bytes) ≡ false
  pub some : (lines ≡ [] → ⊥) → (grant : Bool)
      → Reads mode (begun ++ bytes) (awaited asked grant) lines
      (mode_by asked grant now) (drop used bytes)
  pub all : (lines ≡ [] → ⊥) → asked ≡ false → has_end now (drop used bytes) ≡ false

-- whether a CR is last, where bytes come after what was there
abbrev pub cr_after : Bool → List ℕ → Bool
cr_after after_cr [] = after_cr
cr_after after_cr (b ∷ bytes) = ends_in_cr (b ∷ bytes)

-- the lines that were taken from so many of the bytes, and what is kept then
pub record Takes (old new : Under) (begun bytes : List ℕ) (lines : List Line)
    (used : ℕ) : Type 0 where
  pub begun_now : List ℕ
  pub holds : Holds new begun_now
  pub none : lines ≡ [] → (new ≡ record old { kept = new.kept; after_cr = new.after_cr })
      × (begun_now ++ drop used bytes ≡ begun ++ bytes)
  pub some : (lines ≡ [] → ⊥) → (grant : Bool)
      → Reads old.mode (begun ++ bytes) (awaited new.may_turn grant) lines
      (mode_by new.may_turn grant new.mode) (begun_now ++ drop used bytes)
