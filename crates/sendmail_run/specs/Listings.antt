-- The listing of a queue, and how the mode that prints it ends (Sendmail Installation and Operation
-- Guide, "Command Line Flags": -bp; the lines and the ends are own).
use Rattle.std.specs.Prelude.{◌≡◌, ℕ, pos, List, [], ◌∷◌, ◌++◌, length, map, filter, not, Bool, false, true, Option, None, Some, IfSome, codes, refl}
use Rattle.std.specs.Fmt.{decimal, digits, signed_decimal}
use Rattle.std.specs.List.{AllPairs, flat_map}
use Rattle.std.specs.List.Sorted.{IsPermutation}
use Rattle.addr_test.specs.Texts.{line_of}
use Rattle.mail_base.specs.Histories.{Gains, Rose}
use Rattle.mail_base.specs.Names.{id_text, digits as id_digits}
use Rattle.mail_base.specs.States.{is_finished}
use Rattle.mail_base.specs.declared.control.Control.{Control}
use Rattle.mail_base.specs.declared.control.Entry.{Entry}
use Rattle.mail_base.specs.declared.control.Row.{Row}
use Rattle.mail_base.specs.declared.control.State.{State}
use Rattle.mail_base.specs.declared.control.State.TheVariants.{Queued, Sent, Failed, Returned, Dead}
use Rattle.mail_base.specs.declared.control.Stray.{Stray}
use Rattle.mail_edge.specs.Moves.{GainsPart}
use Rattle.mail_edge.specs.Seen.{SinkSeen}
use Rattle.spool_disk.specs.Disk.{FileMap}
use Rattle.spool_disk.specs.Listings.{AreSameNames, IsAscending}
use Rattle.spool_disk.specs.Spooled.{Spooled}
use Rattle.spool_store.specs.Entries.{Stored, Table}
use Rattle.spool_store.specs.Openings.{AreStrays}
use Rattle.spool_store.specs.Settled.{StandsFor}
use Rattle.queue_table.specs.Order.{IsBefore}
use Rattle.sendmail_run.specs.declared.list_mode.ListEnd.{ListEnd}
use Rattle.sendmail_run.specs.declared.list_mode.ListEnd.TheVariants as ends
use Rattle.sendmail_run.specs.Serving.{IsTakenOver}

-- ---- the lines

-- what has become of a row: it is tried, was sent, awaits its return, was returned, or is dead
abbrev pub letter_of : State → List ℕ
letter_of (Queued said) = codes "Q"
letter_of Sent = codes "S"
letter_of (Failed status note) = codes "F"
letter_of (Returned id) = codes "R"
letter_of (Dead status note) = codes "D"

-- what is noted of its last attempt
abbrev pub note_of : State → Option (List ℕ)
note_of (Queued said) = said
note_of Sent = None
note_of (Failed status note) = Some note
note_of (Returned id) = None
note_of (Dead status note) = Some note

abbrev pub note_text : Option (List ℕ) → List ℕ
note_text None = []
note_text (Some note) = codes " (" ++ note ++ codes ")"

-- the line of a row
unfoldable pub row_line : Row → List ℕ
row_line row = line_of
    (codes "  " ++ letter_of row.state ++ codes " " ++ row.address ++ note_text (note_of row.state))

-- the line of an entry with a body of so many bytes: its id, group, size, priority and sender
unfoldable pub head_line : ℕ → Control → ℕ → List ℕ
head_line id control size = line_of
    (id_text id ++ codes " " ++ control.group ++ codes " " ++ decimal size ++ codes " "
    ++ signed_decimal control.priority ++ codes " " ++ control.sender)

-- the lines of an entry
abbrev pub entry_lines : Stored → List ℕ
entry_lines s = head_line s.id s.control (length s.body) ++ flat_map row_line s.control.rows

-- the line of a file that is left alone
unfoldable pub strange_line : List ℕ → List ℕ
strange_line path = line_of (codes "strange: " ++ path)

-- the last line, of so many entries
unfoldable pub total_line : ℕ → List ℕ
total_line count = line_of (codes "Total requests: " ++ decimal count)

-- ---- the listing

-- a row of it isn't done
abbrev pub is_listed : Stored → Bool
is_listed s = not (is_finished s.control)

abbrev pub entry_of : Stored → Entry
entry_of s = record { id = s.id; dir = s.dir; control = s.control }

-- it doesn't go before the other one, which is behind it
abbrev pub MayFollow : Stored → Stored → Type 0
MayFollow one other = IsBefore (entry_of other) (entry_of one) → ⊥

abbrev pub path_of : Stray → List ℕ
path_of stray = stray.dir ++ codes "/" ++ stray.name

-- the listing of these entries, and of these files that are left alone: the entries with a row that
-- isn't done, in the order of their priorities and ids; those files in the order of their paths,
-- each once; and the number of the entries
pub record IsListing (entries : List Stored) (strays : List Stray) (text : List ℕ) : Type 0 where
  pub shown : List Stored
  pub same : IsPermutation (filter is_listed entries) shown
  pub order : AllPairs MayFollow shown
  pub paths : List (List ℕ)
  pub ascending : IsAscending paths
  pub strange : AreSameNames (map path_of strays) paths
  pub is : text ≡ flat_map entry_lines shown ++ flat_map strange_line paths
      ++ total_line (length shown)

-- the listing of a queue: that of the table that its files stand for, and of the files that are
-- left alone
pub record ListsFiles (dirs : List (List ℕ)) (files : FileMap) (text : List ℕ) : Type 0 where
  pub some : Table
  pub stands : StandsFor dirs some files
  pub strays : List Stray
  pub are : AreStrays dirs files strays
  pub each : (table : Table) → StandsFor dirs table files → IsListing table.entries strays text

-- nothing is said where the files aren't told
abbrev pub IsListed : List (List ℕ) → Spooled → List ℕ → Type 0
IsListed dirs spool text = IfSome spool.told (λ files. ListsFiles dirs files text)

-- ---- how the mode ends

-- the listing was written
pub record HasWritten (dirs : List (List ℕ)) (spool : Spooled) (before after : SinkSeen)
    : Type 0 where
  pub text : List ℕ
  pub is : IsListed dirs spool text
  pub written : Gains before.written after.written text

-- a front of it was written, and that count rose
pub record HasBroken (dirs : List (List ℕ)) (spool : Spooled) (before after : SinkSeen)
    : Type 0 where
  pub text : List ℕ
  pub is : IsListed dirs spool text
  pub written : GainsPart before.written after.written text
  pub rose : Rose before.faults after.faults

-- what was written, over what was seen of the queue and the output before and behind
abbrev pub Writes : List (List ℕ) → Spooled → Spooled → SinkSeen → SinkSeen → ListEnd → Type 0
Writes dirs a b before after ends.Done = HasWritten dirs a before after
Writes dirs a b before after ends.WriteFault = HasBroken dirs a before after
Writes dirs a b before after ends.SpoolFault = (after ≡ before) × Rose a.faults b.faults
Writes dirs a b before after ends.NoMemory = after ≡ before

-- how the mode ends: the queue was opened at most, and its listing written at most
pub record Lists (dirs : List (List ℕ)) (a b : Spooled) (before after : SinkSeen)
    (how : ListEnd) : Type 0 where
  pub queue : IsTakenOver dirs a b
  pub writes : Writes dirs a b before after how

-- a message of seven bytes to one recipient
abbrev hello : Stored
hello =
    record {
      id = 1;
      dir = codes "/q";
      control =
          record {
            revision = 1;
            parent = None;
            group = codes "mqueue";
            created = 1767225600;
            last_try = 0;
            tries = 0;
            priority = pos 30022;
            class = pos 0;
            marks = record { bounce = false; double = false; warned = false };
            eight = false;
            sender = codes "<bob@c.example>";
            kept = record { protocol = codes "ESMTP"; helo = codes "c.example"; client = [] };
            rows = record {
              address = codes "<ann@mx.example>";
              primary = true;
              state = Queued None;
            } ∷ [];
            headers = [];
          };
      body = codes "hello" ++ 13 ∷ 10 ∷ [];
    }

-- an empty queue, that message, and a note
example : (total_line 0 ≡ codes "Total requests: 0\n")
    × (flat_map entry_lines (hello ∷ []) ++ total_line 1
    ≡ codes
    "w000000000001 mqueue 7 30022 <bob@c.example>\n  Q <ann@mx.example>\nTotal requests: 1\n")
    × (note_text (note_of (Queued (Some (codes "exit 75")))) ≡ codes " (exit 75)")
unfolding head_line row_line total_line digits id_digits
example = (refl, refl, refl)
