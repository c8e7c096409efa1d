-- Sound tables, and when a command may be asked of one (own; parents, bounces and double bounces
-- are those of the Sendmail Installation and Operation Guide, "The queue").
use Rattle.std.specs.Prelude.{◌≡◌, ℕ, ◌<◌, ◌≤◌, ◌^◌, List, [], ◌∷◌, ◌++◌, length, All, Contains, Bool, true, false, IfSome, Option, get_or}
use Rattle.std.specs.List.{AllZip}
use Rattle.std.specs.List.Sorted.{IsStrictlySortedBy}
use Rattle.std.specs.Ordering.{nat_cmp}
use Rattle.mail_base.specs.declared.control.Parent.{Parent}
use Rattle.mail_base.specs.declared.control.Row.{Row}
use Rattle.mail_base.specs.declared.control.State.{State}
use Rattle.mail_base.specs.declared.control.State.TheVariants.{Queued, Sent, Failed, Returned, Dead}
use Rattle.mail_base.specs.declared.message.Back.{Back}
use Rattle.mail_base.specs.declared.message.Cut.{Cut}
use Rattle.mail_base.specs.States.{is_queued, wants_bounce}
use Rattle.spool_store.specs.Entries.{Stored, Table, ids}
use Rattle.spool_store.specs.Queue.{IsOpen}
use Rattle.queue_table.specs.Commands.{Command}
use Rattle.queue_table.specs.Commands.Command.{Accept, Record, Return, Warn}

-- the parent of an entry: an entry of a smaller id that has the revision which is named
pub record IsHeir (entries : List Stored) (id : ℕ) (parent : Parent) : Type 0 where
  pub above : Stored
  pub among : Contains entries above
  pub is : above.id ≡ parent.id
  pub less : parent.id < id
  pub revision : parent.revision ≤ above.control.revision

-- the entry by which a row was returned
pub record IsBounce (entries : List Stored) (id : ℕ) : Type 0 where
  pub bounce : Stored
  pub among : Contains entries bounce
  pub is : bounce.id ≡ id
  pub marked : bounce.control.marks.bounce ≡ true

-- a returned row was returned by a bounce, and only a double bounce has a dead row
abbrev pub IsMeant : List Stored → Bool → State → Type 0
IsMeant entries double (Queued _) = Unit {0}
IsMeant entries double Sent = Unit {0}
IsMeant entries double (Failed _ _) = Unit {0}
IsMeant entries double (Returned id) = IsBounce entries id
IsMeant entries double (Dead _ _) = double ≡ true

pub record IsSoundEntry (entries : List Stored) (s : Stored) : Type 0 where
  pub rows : 0 < length s.control.rows
  pub parent : IfSome s.control.parent (IsHeir entries s.id)
  pub states : All (λ row. IsMeant entries s.control.marks.double row.state) s.control.rows
  pub revision : s.control.revision < 2 ^ 64

-- ids ascend and are below the first free one, and each entry is sound
pub record IsSound (table : Table) : Type 0 where
  pub ascending : IsStrictlySortedBy nat_cmp (ids table.entries)
  pub below : All (λ s. s.id < table.next) table.entries
  pub each : All (IsSoundEntry table.entries) table.entries

-- cuts of a message: one at least, each with a row
pub record AreCuts (cuts : List Cut) : Type 0 where
  pub some : 0 < length cuts
  pub each : All (λ cut. 0 < length cut.rows) cuts

-- an entry of that id is in the table
pub record HasEntry (table : Table) (id : ℕ) : Type 0 where
  pub entry : Stored
  pub among : Contains table.entries entry
  pub is : entry.id ≡ id

-- the row at a place is still tried
pub record IsTried (rows : List Row) (place : ℕ) : Type 0 where
  pub within : place < length rows
  pub queued : (row : Row) → is_queued (get_or rows place row).state ≡ true

-- rows of an entry that are still tried
pub record CanRecord (table : Table) (id : ℕ) (places : List ℕ) : Type 0 where
  pub has : HasEntry table id
  pub tried : All (IsTried has.entry.control.rows) places

-- a message that is sent for an entry
pub record IsBack (back : Back) : Type 0 where
  pub cuts : AreCuts back.cuts
  pub marked : back.message.marks.bounce ≡ true

-- an entry that wants a bounce is given back by one message, and another one by none
abbrev pub AreBounces : Bool → List Back → Type 0
AreBounces true bounces = (back : Back) × (bounces ≡ back ∷ []) × IsBack back
AreBounces false bounces = bounces ≡ []

pub record CanReturn (table : Table) (id : ℕ) (bounces : List Back) : Type 0 where
  pub has : HasEntry table id
  pub waits : IsOpen has.entry.control
  pub bounces_are : AreBounces (wants_bounce has.entry.control) bounces

pub record CanWarn (table : Table) (id : ℕ) (warnings : List Back) : Type 0 where
  pub has : HasEntry table id
  pub waits : IsOpen has.entry.control
  pub warning : Back
  pub one : warnings ≡ warning ∷ []
  pub cuts : AreCuts warning.cuts

-- when a command may be asked of a table
abbrev pub CanDo : Table → Command → Type 0
CanDo table (Accept terms message cuts moment) = AreCuts cuts
CanDo table (Record terms id places results moment) = CanRecord table id places
CanDo table (Return terms id bounces moment) = CanReturn table id bounces
CanDo table (Warn terms id warnings moment) = CanWarn table id warnings

-- where a row may go in one command: it is tried on, was sent or failed; a failed one is returned
-- or dead
pub data Goes : State → State → Type 0 where
  stays : (state : State) → Goes state state
  goes_on : (before after : Option (List ℕ)) → Goes (Queued before) (Queued after)
  was_sent : (before : Option (List ℕ)) → Goes (Queued before) Sent
  has_failed : (before : Option (List ℕ)) (status note : List ℕ)
      → Goes (Queued before) (Failed status note)
  went_back : (status note : List ℕ) (id : ℕ) → Goes (Failed status note) (Returned id)
  died : (status note : List ℕ) → Goes (Failed status note) (Dead status note)

-- a row of the same address
pub record RowGoes (old new : Row) : Type 0 where
  pub address : new.address ≡ old.address
  pub primary : new.primary ≡ old.primary
  pub state : Goes old.state new.state

-- an entry keeps its id, directory, body and rows, and each row goes where it may
pub record EntryGoes (old new : Stored) : Type 0 where
  pub id : new.id ≡ old.id
  pub dir : new.dir ≡ old.dir
  pub body : new.body ≡ old.body
  pub parent : new.control.parent ≡ old.control.parent
  pub rows : AllZip RowGoes old.control.rows new.control.rows

-- no entry is taken out, and new ones stand behind the others
pub record TableGoes (old new : Table) : Type 0 where
  pub kept : List Stored
  pub added : List Stored
  pub entries : new.entries ≡ kept ++ added
  pub each : AllZip EntryGoes old.entries kept
  pub fresh : All (λ s. old.next ≤ s.id) added
