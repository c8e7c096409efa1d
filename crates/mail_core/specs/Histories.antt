-- Histories of a queue: runs one after another, each over the entries that the one before it left
-- (own).
use Rattle.std.specs.Prelude.{◌≡◌, ◌⊎◌, ℕ, ◌<◌, List, [], ◌∷◌, ◌++◌, Option, Some, None, All, Contains, slice_get}
use Rattle.mail_base.specs.declared.control.Row.{Row}
use Rattle.mail_base.specs.declared.message.Message.{Message}
use Rattle.spool_disk.specs.Disk.{FileMap}
use Rattle.spool_store.specs.Entries.{Stored, Table}
use Rattle.spool_store.specs.Settled.{StandsFor}
use Rattle.queue_table.specs.Commands.{Command}
use Rattle.queue_run.specs.Deeds.{Asks}
use Rattle.mail_made.specs.Messages.{IsTakenIn, Made}
use Rattle.mail_core.specs.Acks.{BeginsWith, put_by}
use Rattle.mail_core.specs.Beginning.{Start, beginning, run_over}
use Rattle.mail_core.specs.Effects.{Effect, Does, table_after}
use Rattle.mail_core.specs.Judges.{untold}
use Rattle.mail_core.specs.Lasting.{Lasts, RowCame}
use Rattle.mail_core.specs.Machine.{Turn}
use Rattle.mail_core.specs.Meant.{IsRunMeant}
use Rattle.mail_core.specs.Messages.{accept_of}
use Rattle.mail_core.specs.Sites.{Site}

-- ---- a run that is over

-- what it ran with, how it began, its turns, what it did, and the command that it had asked for, and
-- that came to nothing, where a stop or a fault of the spool ended it there
pub record Past : Type 0 where
  pub site : Site
  pub start : Start
  pub turns : List Turn
  pub done : List Effect
  pub last : Option Command

abbrev pub last_of : Option Command → List Effect
last_of None = []
last_of (Some command) = Does (Asks command) ∷ []

-- all that it did and asked for
abbrev pub all_of : Past → List Effect
all_of p = p.done ++ last_of p.last

-- the table that it left, without that command
abbrev pub left_by : Past → Table
left_by p = table_after p.start.table p.done

-- the first free id of a table is above all ids in it
abbrev pub IsFree : Table → Type 0
IsFree table = All (λ s. s.id < table.next) table.entries

-- that is what the machine does at these turns, by choices that say what a judge may say and what
-- the configuration does
pub record IsRanPast (p : Past) : Type 0 where
  pub whole : (run_over p.site p.start p.turns).effects ≡ all_of p
  pub meant : IsRunMeant untold p.site (beginning p.start) p.turns
  pub free : IsFree p.start.table

-- what a run asks that takes one message of a program over a table: nothing, or to take it in as
-- what the configuration makes of it
pub data HandsOver (site : Site) (table : Table) : List Effect → Type 0 where
  hands_nothing : HandsOver site table []
  hands_one : (moment : ℕ) (message : Message) (made : Made)
      → IsTakenIn site.config site.maps moment message table.next made
      → HandsOver site table (Does (Asks (accept_of site moment message made)) ∷ [])

-- that is what such a run asked, without a turn of the machine
pub record IsHandedPast (p : Past) : Type 0 where
  pub unturned : p.turns ≡ []
  pub hands : HandsOver p.site p.start.table (all_of p)
  pub free : IsFree p.start.table

-- it was a run of the machine, or one that handed a message over
abbrev pub IsPast : Past → Type 0
IsPast p = IsRanPast p ⊎ IsHandedPast p

-- ---- runs one after another

-- from a queue with these entries they lead to that table: each begins with the entries that the one
-- before left, under its own configuration of the same directories, and finds a first free id of its
-- own
abbrev pub Chain : List Stored → List Past → Table → Type 0
Chain entries [] last = (last.entries ≡ entries) × IsFree last
Chain entries (p ∷ later) last =
    (p.start.table.entries ≡ entries) × (IsPast p × Chain (left_by p).entries later last)

-- ---- what is said of them

-- a command among these effects put in a message whose first entry has that id, and the last table
-- has what became of each of its entries
pub record HasKept (first : Table) (effects : List Effect) (last : Table) (id : ℕ) : Type 0 where
  pub done : List Effect
  pub command : Command
  pub rest : List Effect
  pub whole : effects ≡ done ++ Does (Asks command) ∷ rest
  pub head : BeginsWith id (put_by (table_after first done) command)
  pub each : (s : Stored) → Contains (put_by (table_after first done) command) s → Lasts last s

-- the row at a place of the entry of an id
pub record IsRowAt (table : Table) (id place : ℕ) (row : Row) : Type 0 where
  pub entry : Stored
  pub among : Contains table.entries entry
  pub is : entry.id ≡ id
  pub there : slice_get entry.control.rows place ≡ Some row

-- the table has what became of that row, at its place
pub record HasRow (table : Table) (id place : ℕ) (row : Row) : Type 0 where
  pub now : Row
  pub at : IsRowAt table id place now
  pub came : RowCame row now

-- these effects, which stood last in what a run did and asked for, are the command that came to
-- nothing, and no more
pub record IsUnrecorded (p : Past) (effects : List Effect) : Type 0 where
  pub command : Command
  pub last : p.last ≡ Some command
  pub only : effects ≡ Does (Asks command) ∷ []

-- the files that a run left are told, and stand for the table that a past of it left
pub record LeavesPast (site : Site) (start : Start) (turns : List Turn) (told : Option FileMap)
    : Type 0 where
  pub past : Past
  pub site_is : past.site ≡ site
  pub start_is : past.start ≡ start
  pub turns_are : past.turns ≡ turns
  pub is : IsPast past
  pub files : FileMap
  pub told_is : told ≡ Some files
  pub stands : StandsFor site.dirs (left_by past) files
