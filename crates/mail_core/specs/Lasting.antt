-- What becomes of an entry and its rows (own; the states of a row are those of the Sendmail
-- Installation and Operation Guide, "The queue").
use Rattle.std.specs.Prelude.{◌≡◌, ℕ, Contains, Some, slice_get}
use Rattle.std.specs.List.{AllZip}
use Rattle.mail_base.specs.declared.control.Row.{Row}
use Rattle.mail_base.specs.declared.control.State.{State}
use Rattle.mail_base.specs.declared.control.State.TheVariants.{Sent}
use Rattle.spool_store.specs.Entries.{Stored, Table}
use Rattle.queue_table.specs.Soundness.{Goes}

-- where a row may come to in any commands
pub data Comes : State → State → Type 0 where
  is_there : (state : State) → Comes state state
  went_on : (old between new : State) → Goes old between → Comes between new → Comes old new

-- a row of the same address
pub record RowCame (old new : Row) : Type 0 where
  pub address : new.address ≡ old.address
  pub primary : new.primary ≡ old.primary
  pub state : Comes old.state new.state

-- an entry keeps its id, directory, body and rows, and each row comes where it may
pub record EntryCame (old new : Stored) : Type 0 where
  pub id : new.id ≡ old.id
  pub dir : new.dir ≡ old.dir
  pub body : new.body ≡ old.body
  pub parent : new.control.parent ≡ old.control.parent
  pub rows : AllZip RowCame old.control.rows new.control.rows

-- the table has what became of an entry
pub record Lasts (table : Table) (s : Stored) : Type 0 where
  pub now : Stored
  pub among : Contains table.entries now
  pub came : EntryCame s now

-- the row at a place of the entry of an id was sent
pub record IsSentAt (table : Table) (id place : ℕ) : Type 0 where
  pub entry : Stored
  pub among : Contains table.entries entry
  pub is : entry.id ≡ id
  pub row : Row
  pub there : slice_get entry.control.rows place ≡ Some row
  pub sent : row.state ≡ Sent
