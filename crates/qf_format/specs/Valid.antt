-- Which controls have a text: the ranges and forms of their fields (Sendmail Installation and
-- Operation Guide, "The queue"; the ranges are our own).
use Rattle.std.specs.Prelude.{ℕ, ◌<◌, ◌≤◌, ◌^◌, List, IfSome, IsTrue, All, length, FitsSigned}
use Rattle.std.specs.Int.{w64, w128}
use Rattle.mail_base.specs.Limits.{IsId, most_rows}
use Rattle.mail_base.specs.Notes.{IsNote, is_status}
use Rattle.mail_base.specs.Texts.{IsLine, IsBracketed, IsAddress, IsHeader}
use Rattle.mail_base.specs.declared.control.Control.{Control}
use Rattle.mail_base.specs.declared.control.Parent.{Parent}
use Rattle.mail_base.specs.declared.control.Row.{Row}
use Rattle.mail_base.specs.declared.control.State.{State}
use Rattle.mail_base.specs.declared.control.State.TheVariants.{Queued, Sent, Failed, Returned, Dead}
use Rattle.mail_base.specs.declared.message.Kept.{Kept}

-- a revision is no less than 1
pub record IsRevision (revision : ℕ) : Type 0 where
  pub least : 1 ≤ revision
  pub most : revision < 2 ^ 64

-- a parent has an id and a revision
pub record IsParent (parent : Parent) : Type 0 where
  pub id : IsId parent.id
  pub revision : IsRevision parent.revision

-- a status and a note
pub record IsCause (status note : List ℕ) : Type 0 where
  pub status_form : IsTrue (is_status status)
  pub note_form : IsNote note

-- what became of a row has an id, a note, or a status with a note in their forms
abbrev pub IsState : State → Type 0
IsState (Queued note) = IfSome note IsNote
IsState Sent = Unit {0}
IsState (Failed status note) = IsCause status note
IsState (Returned id) = IsId id
IsState (Dead status note) = IsCause status note

-- a row has an address and a state
pub record IsRow (row : Row) : Type 0 where
  pub address_form : IsAddress row.address
  pub state_form : IsState row.state

-- a control has at least one row, and not too many
pub record AreRows (rows : List Row) : Type 0 where
  pub some : 0 < length rows
  pub few : length rows ≤ most_rows
  pub each : All IsRow rows

-- what is kept with a message has no LF
pub record AreKept (kept : Kept) : Type 0 where
  pub protocol_form : IsLine kept.protocol
  pub helo_form : IsLine kept.helo
  pub client_form : IsLine kept.client

-- the fields of a control meet the ranges and forms of its text
pub record IsValid (c : Control) : Type 0 where
  pub revision_range : IsRevision c.revision
  pub parent_form : IfSome c.parent IsParent
  pub group_form : IsLine c.group
  pub created_range : c.created < 2 ^ 64
  pub last_try_range : c.last_try < 2 ^ 64
  pub tries_range : c.tries < 2 ^ 64
  pub priority_range : FitsSigned w128 c.priority
  pub class_range : FitsSigned w64 c.class
  pub sender_form : IsBracketed c.sender
  pub kept_form : AreKept c.kept
  pub rows_form : AreRows c.rows
  pub headers_form : All IsHeader c.headers
