-- The open sessions: all bytes that each has sent, and its lines so far (RFC 5321 sections 2.3.8
-- and 3.3).
use Rattle.std.specs.Prelude.{◌≡◌, ℕ, nat_eq, nat_lt, List, [], ◌∷◌, ◌++◌, length, map, filter, slice_get, Option, Bool, false, not, if◌then◌else◌}
use Rattle.std.specs.List.{flat_map, find, list_any}
use Rattle.mail_base.specs.declared.config.Config.{Config}
use Rattle.smtp_lines.specs.declared.line.Line.{Line}
use Rattle.smtp_lines.specs.declared.line.Mode.TheVariants.{Commands}
use Rattle.smtp_lines.specs.Stream.{asks, reading_by, reading_of}
use Rattle.smtp_receive.specs.Dialogue.{Heard, Exchange, dialogue, exchanges, is_dropped, is_grant}
use Rattle.smtp_receive.specs.Judging.{Said}

-- an open session: its number, the configuration under which it is served, the peer's address, all
-- bytes that were received, and the lines that were answered, each with what the judge said of it,
-- whether 452 4.3.1 came to it and the id of its message
pub record Guest : Type 0 where
  pub number : ℕ
  pub config : Config
  pub peer : List ℕ
  pub received : List ℕ
  pub heard : List Heard

-- a session of which nothing has come
abbrev pub newcomer : Config → ℕ → List ℕ → Guest
newcomer config number peer =
    record { number = number; config = config; peer = peer; received = []; heard = [] }

-- the line of an input
abbrev pub line_in : Heard → Line
line_in heard = heard.line

-- the lines of a session that were answered
abbrev pub lines_heard : Guest → List Line
lines_heard g = map line_in g.heard

-- whether a line that asks for a message got the 354
abbrev pub grant_in : Exchange → List Bool
grant_in e = if asks e.line then is_grant e.answer ∷ [] else []

-- the grants of the lines that asked, by the dialogue so far
abbrev pub grants_of : Guest → List Bool
grants_of g = flat_map grant_in (dialogue g.config g.peer g.heard)

-- the lines of what was received
abbrev pub lines_of : Guest → List Line
lines_of g = (reading_of g.received (grants_of g)).lines

-- the first of them that was not answered yet
abbrev pub next_line : Guest → Option Line
next_line g = slice_get (lines_of g) (length g.heard)

-- the bytes that came after the lines that were answered
abbrev pub bytes_left : Guest → List ℕ
bytes_left g = (reading_by (length g.heard) Commands g.received (grants_of g)).rest

abbrev pub has_bytes_left : Guest → Bool
has_bytes_left g = nat_lt 0 (length (bytes_left g))

-- whether a line is of data that is dropped, which gets no reply
abbrev pub is_passed : Guest → Line → Bool
is_passed g line = is_dropped (exchanges g.config g.peer g.heard) line

-- more bytes were received
abbrev pub with_bytes : Guest → List ℕ → Guest
with_bytes g bytes = record g { received = g.received ++ bytes }

-- one line more was answered: what the judge said of it, whether 452 4.3.1 came to it, and the id
-- that its message got, if it gave one that was taken in
abbrev pub with_line : Guest → Line → Said → Bool → Option ℕ → Guest
with_line g line said short id = record g {
  heard = g.heard ++ record { line = line; said = said; short = short; id = id } ∷ [];
}

abbrev pub has_number : ℕ → Guest → Bool
has_number session g = nat_eq g.number session

-- the session of that number
abbrev pub guest_of : ℕ → List Guest → Option Guest
guest_of session guests = find (has_number session) guests

abbrev pub is_here : ℕ → List Guest → Bool
is_here session guests = list_any (has_number session) guests

-- no two sessions have one number
abbrev pub AreApart : List Guest → Type 0
AreApart [] = Unit {0}
AreApart (g ∷ guests) = (is_here g.number guests ≡ false) × AreApart guests

-- the sessions without that one
abbrev pub without : ℕ → List Guest → List Guest
without session guests = filter (λ g. not (has_number session g)) guests

-- the sessions with one that has gone on
abbrev pub with_guest : Guest → List Guest → List Guest
with_guest now guests = map (λ g. if has_number now.number g then now else g) guests
