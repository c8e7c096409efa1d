-- The control file of an entry of the queue (Sendmail Installation and Operation Guide, "The
-- queue": the lines V, T, K, N, P, F, B, S, $, R, H and the dot; the lines v, p, g, c and e and the
-- limits are our own).
use Rattle.std.specs.Prelude.{ℕ, Bool, true, false, List, [], ◌∷◌, ◌++◌, Option, None, Some, codes, if◌then◌else◌, ◌||◌}
use Rattle.std.specs.List.{flat_map}
use Rattle.std.specs.Fmt.{decimal, signed_decimal}
use Rattle.mail_base.specs.Names.{id_text}
use Rattle.mail_base.specs.declared.control.Control.{Control}
use Rattle.mail_base.specs.declared.control.Parent.{Parent}
use Rattle.mail_base.specs.declared.control.Row.{Row}
use Rattle.mail_base.specs.declared.control.State.{State}
use Rattle.mail_base.specs.declared.control.State.TheVariants.{Queued, Sent, Failed, Returned, Dead}
use Rattle.mail_base.specs.declared.message.Marks.{Marks}
use Rattle.mail_base.specs.declared.message.Kept.{Kept}

-- a line: its content and LF
abbrev pub line : List ℕ → List ℕ
line content = content ++ 10 ∷ []

-- the entry that it is a child of
abbrev pub parent_line : Option Parent → List ℕ
parent_line None = []
parent_line (Some parent) =
    line (codes "p" ++ (id_text parent.id ++ (codes " " ++ decimal parent.revision)))

-- a letter where it is set
abbrev pub letter : Bool → List ℕ → List ℕ
letter true text = text
letter false text = []

-- the letters of what is marked: b for a bounce or a warning, d for a double bounce, w where a
-- warning was sent
abbrev pub letters : Marks → List ℕ
letters marks = letter marks.bounce (codes "b") ++ letter marks.double (codes "d")
    ++ letter marks.warned (codes "w")

-- the letters' line, only where there are some
abbrev pub marks_line : Marks → List ℕ
marks_line marks =
    if marks.bounce || (marks.double || marks.warned) then line (codes "F" ++ letters marks) else []

-- the line of a message that was declared as 8BITMIME
abbrev pub eight_line : Bool → List ℕ
eight_line true = line (codes "B8BITMIME")
eight_line false = []

-- a status and a note
abbrev pub cause : List ℕ → List ℕ → List ℕ
cause status note = codes " " ++ (status ++ (codes " " ++ note))

-- what became of a row
abbrev pub state_text : State → List ℕ
state_text (Queued None) = codes "Q"
state_text (Queued (Some note)) = codes "Q " ++ note
state_text Sent = codes "S"
state_text (Failed status note) = codes "F" ++ cause status note
state_text (Returned id) = codes "R " ++ id_text id
state_text (Dead status note) = codes "D" ++ cause status note

-- the flags of a row
abbrev pub flags : Bool → List ℕ
flags true = codes "PFD"
flags false = codes "FD"

-- a recipient, with the line of its state
unfoldable pub row_lines : Row → List ℕ
row_lines row = line (codes "R" ++ (flags row.primary ++ (codes ":" ++ row.address)))
    ++ line (codes "e" ++ state_text row.state)

-- a header with its continuation lines
abbrev pub header_lines : List ℕ → List ℕ
header_lines header = line (codes "H" ++ header)

-- the version, the revision, the parent of a child, and the group
unfoldable pub place_lines : Control → List ℕ
place_lines c = line (codes "V1") ++ line (codes "v" ++ decimal c.revision) ++ parent_line c.parent
    ++ line (codes "g" ++ c.group)

-- its creation, its last try and its tries, its priority and its class
unfoldable pub order_lines : Control → List ℕ
order_lines c = line (codes "T" ++ decimal c.created) ++ line (codes "K" ++ decimal c.last_try)
    ++ line (codes "N" ++ decimal c.tries)
    ++ line (codes "P" ++ signed_decimal c.priority) ++ line (codes "c" ++ signed_decimal c.class)

-- its marks, its body's type and its sender
unfoldable pub sender_lines : Control → List ℕ
sender_lines c = marks_line c.marks ++ eight_line c.eight ++ line (codes "S" ++ c.sender)

-- the macros that are kept with it
unfoldable pub kept_lines : Kept → List ℕ
kept_lines kept = line (codes "$r" ++ kept.protocol) ++ line (codes "$s" ++ kept.helo)
    ++ line (codes "${client_addr}" ++ kept.client)

-- the control text of an entry, version 1
unfoldable pub spelled : Control → List ℕ
spelled c = place_lines c ++ order_lines c ++ sender_lines c ++ kept_lines c.kept
    ++ flat_map row_lines c.rows ++ flat_map header_lines c.headers ++ line (codes ".")
