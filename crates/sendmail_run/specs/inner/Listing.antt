-- The listing of a queue as code makes it, entry by entry. It need not be believed: only private
-- contracts cite it.
use Rattle.std.specs.Prelude.{ℕ, ◌++◌, List, length, not, Bool}
use Rattle.std.specs.List.{flat_map}
use Rattle.mail_base.specs.Names.{name_of}
use Rattle.mail_base.specs.States.{is_finished}
use Rattle.mail_base.specs.declared.control.Control.{Control}
use Rattle.mail_base.specs.declared.id.Kind.TheVariants.{Df}
use Rattle.spool_disk.specs.Disk.{FileMap, bytes_at}
use Rattle.spool_store.specs.Entries.{Stored}
use Rattle.spool_store.specs.Keepers.{or_nothing}
use Rattle.spool_store.specs.declared.held.Held.{Held}
use Rattle.queue_table.specs.Order.{IsBefore}
use Rattle.sendmail_run.specs.Listings.{head_line, row_line}

-- a row of it isn't done
abbrev pub is_open : Held → Bool
is_open h = not (is_finished h.entry.control)

-- it doesn't go before the other one, which is behind it
abbrev pub GoesOn : Held → Held → Type 0
GoesOn one other = IsBefore other.entry one.entry → ⊥

-- its body, as the files have it
abbrev pub body_by : FileMap → Held → List ℕ
body_by files h = or_nothing (bytes_at files (h.entry.dir, name_of Df h.entry.id))

-- the entry with that body
abbrev pub stored_by : FileMap → Held → Stored
stored_by files h =
    record {
      id = h.entry.id;
      dir = h.entry.dir;
      control = h.entry.control;
      body = body_by files h;
    }

-- the lines of an entry with a body of so many bytes
abbrev pub lines_of : ℕ → Control → ℕ → List ℕ
lines_of id control size = head_line id control size ++ flat_map row_line control.rows

-- its lines, where its body is as the files have it
abbrev pub held_lines : FileMap → Held → List ℕ
held_lines files h = lines_of h.entry.id h.entry.control (length (body_by files h))
