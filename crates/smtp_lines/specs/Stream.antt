-- The lines of an SMTP stream (RFC 5321 sections 2.3.8, 4.1 and 4.5.2).
use Rattle.std.specs.Prelude.{◌≡◌, ℕ, zero, suc, ◌+◌, ◌-◌, slice_index, ◌==◌, nat_le, Bool, true, false, ◌||◌, ◌&&◌, List, [], ◌∷◌, ◌++◌, length, take, drop, Option, Some, None, if◌then◌else◌, codes}
use Rattle.std.specs.List.{before_first}
use Rattle.std.specs.Str.{bytes_eq, str_eq_ignore_ascii_case}
use Rattle.mail_base.specs.Limits.{most_message, most_command}
use Rattle.mail_base.specs.Texts.{crlf, is_blank}
use Rattle.smtp_lines.specs.declared.line.Line.{Line}
use Rattle.smtp_lines.specs.declared.line.Line.TheVariants.{Command, TooLong, Data, DataEnd}
use Rattle.smtp_lines.specs.declared.line.Mode.{Mode}
use Rattle.smtp_lines.specs.declared.line.Mode.TheVariants.{Commands, Message}

-- the bytes that end a line: LF in commands (own; the standard has CR LF alone), and CR LF in a
-- message
abbrev pub end_of : Mode → List ℕ
end_of Commands = 10 ∷ []
end_of Message = crlf

-- whether the bytes begin with a line end
abbrev pub begins_with_end : Mode → List ℕ → Bool
begins_with_end Commands [] = false
begins_with_end Commands (b ∷ bytes) = b == 10
begins_with_end Message [] = false
begins_with_end Message (b ∷ []) = false
begins_with_end Message (b ∷ c ∷ bytes) = b == 13 && c == 10

-- whether a line ends in the bytes
abbrev pub has_end : Mode → List ℕ → Bool
has_end mode [] = false
has_end mode (b ∷ bytes) = begins_with_end mode (b ∷ bytes) || has_end mode bytes

-- the last byte is a CR
abbrev pub ends_in_cr : List ℕ → Bool
ends_in_cr bytes = slice_index bytes (length bytes - 1) == 13

-- without the one CR that may stand before the LF of a command
abbrev pub without_cr : List ℕ → List ℕ
without_cr bytes = if ends_in_cr bytes then take (length bytes - 1) bytes else bytes

-- the command line of the bytes before its LF, with which it is no longer than a command may be
abbrev pub command_line : List ℕ → Line
command_line content =
    if nat_le (length content + 1) most_command then Command (without_cr content) else TooLong

-- without the dot that a line of a message may begin with
abbrev pub without_dot : List ℕ → List ℕ
without_dot bytes = if slice_index bytes 0 == 46 then drop 1 bytes else bytes

-- the line of a message of the bytes before its CR LF; of those after its dot stands one more than
-- a message may have
abbrev pub message_line : List ℕ → Line
message_line content = if bytes_eq content (46 ∷ []) then DataEnd
    else Data (take (most_message + 1) (without_dot content))

-- the line of the bytes before its end
abbrev pub line_of : Mode → List ℕ → Line
line_of Commands content = command_line content
line_of Message content = message_line content

-- the bytes up to the first blank
abbrev pub verb_of : List ℕ → List ℕ
verb_of command = before_first is_blank command

-- the verb is DATA, whatever its case
abbrev pub is_data : List ℕ → Bool
is_data command = str_eq_ignore_ascii_case (verb_of command) (codes "DATA")

-- a line asks whether a message follows it where it is a command with the verb DATA
abbrev pub asks : Line → Bool
asks (Command text) = is_data text
asks TooLong = false
asks (Data text) = false
asks DataEnd = false

-- how the stream goes on after a line that doesn't ask
abbrev pub mode_after : Line → Mode
mode_after (Command text) = Commands
mode_after TooLong = Commands
mode_after (Data text) = Message
mode_after DataEnd = Commands

-- how it goes on after a line that asks, by whether a message was granted
abbrev pub granted_mode : Bool → Mode
granted_mode true = Message
granted_mode false = Commands

-- the lines at the front of bytes, how the stream goes on after them, and the bytes after them;
-- granted says of each line that asks, in order, whether a message follows it
pub data Reads : Mode → List ℕ → List Bool → List Line → Mode → List ℕ → Type 0 where
  nothing : (mode : Mode) (bytes : List ℕ) → Reads mode bytes [] [] mode bytes
  plain : (mode : Mode) (content after : List ℕ) (granted : List Bool) (lines : List Line)
      (last : Mode) (rest : List ℕ)
      → has_end mode content ≡ false → asks (line_of mode content) ≡ false
      → Reads (mode_after (line_of mode content)) after granted lines last rest
      → Reads mode (content ++ (end_of mode ++ after)) granted
      (line_of mode content ∷ lines) last rest
  asked : (mode : Mode) (content after : List ℕ) (grant : Bool) (granted : List Bool)
      (lines : List Line) (last : Mode) (rest : List ℕ)
      → has_end mode content ≡ false → asks (line_of mode content) ≡ true
      → Reads (granted_mode grant) after granted lines last rest
      → Reads mode (content ++ (end_of mode ++ after)) (grant ∷ granted)
      (line_of mode content ∷ lines) last rest

-- one more byte before a line end
abbrev pub longer : ℕ → Option (List ℕ × List ℕ) → Option (List ℕ × List ℕ)
longer b None = None
longer b (Some parts) = Some (b ∷ parts.0, parts.1)

-- the bytes before the first line end, and those after it
abbrev pub cut : Mode → List ℕ → Option (List ℕ × List ℕ)
cut mode [] = None
cut mode (b ∷ bytes) = if begins_with_end mode (b ∷ bytes)
    then Some ([], drop (length (end_of mode)) (b ∷ bytes)) else longer b (cut mode bytes)

-- the lines of a stream, how it goes on after them, and its bytes after the last line end
pub record Reading : Type 0 where
  pub lines : List Line
  pub mode : Mode
  pub rest : List ℕ

-- whether the next line that asks is granted: what isn't said is refused
abbrev pub first_grant : List Bool → Bool
first_grant [] = false
first_grant (grant ∷ granted) = grant

-- the reading of a stream with one more line at its front
abbrev pub with_line : Line → Reading → Reading
with_line first reading = record reading { lines = first ∷ reading.lines }

-- the reading of what stands before a line end and after it, where go reads on
abbrev pub parts_by : (Mode → List ℕ → List Bool → Reading) → Mode → List ℕ → List Bool
    → Option (List ℕ × List ℕ) → Reading
parts_by go mode bytes granted None = record { lines = []; mode = mode; rest = bytes }
parts_by go mode bytes granted (Some parts) =
    with_line (line_of mode parts.0)
    (if asks (line_of mode parts.0)
    then go (granted_mode (first_grant granted)) parts.1 (drop 1 granted)
    else go (mode_after (line_of mode parts.0)) parts.1 granted)

-- so many lines at most
abbrev pub reading_by : ℕ → Mode → List ℕ → List Bool → Reading
reading_by zero mode bytes granted = record { lines = []; mode = mode; rest = bytes }
reading_by (suc n) mode bytes granted = parts_by (reading_by n) mode bytes granted (cut mode bytes)

-- the reading of a whole stream: it has no more lines than bytes
abbrev pub reading_of : List ℕ → List Bool → Reading
reading_of bytes granted = reading_by (length bytes) Commands bytes granted
