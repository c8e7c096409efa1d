-- What calls of the table make before they write. It need not be believed: only private contracts
-- cite it.
use Rattle.std.specs.Prelude.{◌≡◌, ℕ, List, ◌∷◌, map, Option, None, Some, Contains, true, false}
use Rattle.mail_base.specs.declared.control.Control.{Control}
use Rattle.mail_base.specs.declared.control.Draft.{Draft}
use Rattle.mail_base.specs.declared.control.Row.{Row}
use Rattle.mail_base.specs.declared.control.State.{State}
use Rattle.mail_base.specs.declared.message.Cut.{Cut}
use Rattle.mail_base.specs.declared.message.Message.{Message}
use Rattle.spool_store.specs.Entries.{Table}
use Rattle.spool_store.specs.Keepers.{raised}
use Rattle.spool_store.specs.Openings.{IsFitting}
use Rattle.spool_store.specs.Parcels.{IsBelowLast, IsParcelUnder}
use Rattle.spool_store.specs.Queue.{IsOpen}
use Rattle.spool_store.specs.Writes.{after_commit}
use Rattle.spool_store.specs.declared.held.Held.{Held}
use Rattle.spool_store.specs.declared.parcel.Parcel.{Parcel}
use Rattle.queue_table.specs.Calls.{HoldsTable, MayStop, store}
use Rattle.queue_table.specs.Commands.{Command, after, draft_of, drafts_of}
use Rattle.queue_table.specs.Results.{given_back}
use Rattle.queue_table.specs.declared.table.Table.{Table as Kept}
use Rattle.queue_table.specs.declared.terms.Terms.{Terms}

-- the drafts of a message: that of its first cut, and those of the others
pub record AreDrafts (terms : Terms) (message : Message) (moment : ℕ) (cuts : List Cut)
    (drafts : Draft × List Draft) : Type 0 where
  pub first : Cut
  pub rest : List Cut
  pub whole : cuts ≡ first ∷ rest
  pub parent : drafts.0 ≡ draft_of terms message moment first
  pub children : drafts.1 ≡ drafts_of terms message moment rest

-- what becomes of a row: without a bounce a failed one is dead
abbrev pub given_by : Option ℕ → State → State
given_by None state = given_back true 0 state
given_by (Some id) state = given_back false id state

abbrev pub row_by : Option ℕ → Row → Row
row_by bounce row = record row { state = given_by bounce row.state }

abbrev pub control_by : Option ℕ → Control → Control
control_by bounce control =
    record control { revision = raised control.revision; rows = map (row_by bounce) control.rows }

-- the draft of an entry's next control
abbrev pub next_draft : Held → Control → Draft
next_draft h control = record { id = Some h.entry.id; dir = h.entry.dir; control = control }

-- the entry of an id, with a row that isn't done, in a directory of the store and with a control
-- that has a text
pub record IsOpenAt (kept : Kept) (id : ℕ) : Type 0 where
  pub held : Held
  pub among : Contains (store kept).entries held
  pub is : held.entry.id ≡ id
  pub waits : IsOpen held.entry.control
  pub fit : IsFitting (store kept).dirs held.entry

-- a parcel that makes of a table what a command does
pub record Makes (kept : Kept) (id : ℕ) (command : Command) (parcel : Parcel) : Type 0 where
  pub children : List Draft
  pub parent : Draft
  pub is : IsParcelUnder (store kept) id children parent parcel.body parcel
  pub last : MayStop (store kept) command → IsBelowLast (store kept).entries id
  pub leads : (table : Table) → HoldsTable kept table
      → after_commit table children parent parcel.body (Some id) ≡ after table command
