-- The store of parts: what is seen of it, and when its calls may be made (own).
use Rattle.std.specs.Prelude.{◌≡◌, ◌≤◌, ℕ, ◌+◌, ◌-◌, ◌^◌, List, [], map, min, Option, None, Some, Contains, IsSome, true, false}
use Rattle.mail_base.specs.declared.control.Control.{Control}
use Rattle.mail_base.specs.Names.{name_of}
use Rattle.mail_base.specs.States.{is_finished, needs_body}
use Rattle.mail_base.specs.declared.id.Kind.TheVariants.{Df, Qf, Sf}
use Rattle.qf_format.specs.Room.{SameTexts, room_of}
use Rattle.qf_format.specs.Sheets.{Sheet}
use Rattle.qf_format.specs.Valid.{IsValid}
use Rattle.spool_disk.specs.Disk.{FileMap, bytes_at}
use Rattle.spool_store.specs.Entries.{Table, with_control}
use Rattle.spool_store.specs.Openings.{AreEntries, AreStrays, IsNext}
use Rattle.spool_store.specs.Queue.{IsOpen}
use Rattle.spool_store.specs.Stores.{StoreSeen}
use Rattle.spool_store.specs.declared.held.Held.{Held}
use Rattle.spool_store.specs.declared.queue.Queue.{Queue}

-- all that is seen of a store
abbrev pub seen : Queue → StoreSeen
seen q =
    record {
      dirs = q.shelf.dirs;
      entries = q.shelf.items;
      strange = q.strange;
      next = q.shelf.next;
      broken = q.broken;
      room = q.shelf.room;
    }

-- what a store is of a map that its opening read
pub record IsReading (dirs : List (List ℕ)) (f : FileMap) (store : StoreSeen) : Type 0 where
  pub entries : AreEntries dirs f (map (λ h. h.entry) store.entries)
  pub strange : AreStrays dirs f store.strange
  pub next : IsNext dirs f store.next

-- the bytes of a file, or none where it isn't there
abbrev pub or_nothing : Option (List ℕ) → List ℕ
or_nothing None = []
or_nothing (Some bytes) = bytes

-- a revision is raised by one, or stays at its last value
abbrev pub raised : ℕ → ℕ
raised revision = min (revision + 1) (2 ^ 64 - 1)

-- a control may take the place of that of an entry: it says the same rows, raised by one, and has
-- room
pub record CanReplace (entries : List Held) (id : ℕ) (control : Control)
    (paper : Sheet) : Type 0 where
  pub held : Held
  pub among : Contains entries held
  pub is : held.entry.id ≡ id
  pub open_row : IsOpen held.entry.control
  pub valid : IsValid control
  pub texts : SameTexts held.entry.control control
  pub parent : control.parent ≡ held.entry.control.parent
  pub revision : control.revision ≡ raised held.entry.control.revision
  pub empty : paper.bytes ≡ []
  pub fits : room_of held.entry.control ≤ paper.room

-- every row of the entry of an id is done
pub record CanFinish (entries : List Held) (id : ℕ) : Type 0 where
  pub held : Held
  pub among : Contains entries held
  pub is : held.entry.id ≡ id
  pub done : is_finished held.entry.control ≡ true

-- the table with another control of an entry
abbrev pub after_replace : Table → ℕ → Control → Table
after_replace table id c = record { entries = with_control id c table.entries; next = table.next }

-- the control file of an entry has the name of a finished one's alone, and its body is there only
-- where a row is dead
pub record IsFiled (h : Held) (g : FileMap) : Type 0 where
  pub queued : bytes_at g (h.entry.dir, name_of Qf h.entry.id) ≡ None
  pub finished : IsSome (bytes_at g (h.entry.dir, name_of Sf h.entry.id))
  pub body : needs_body h.entry.control ≡ false
      → bytes_at g (h.entry.dir, name_of Df h.entry.id) ≡ None
