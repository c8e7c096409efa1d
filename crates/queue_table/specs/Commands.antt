-- The commands of the message table (own; the entries of a message, their parents and what an entry
-- keeps are those of the Sendmail Installation and Operation Guide, "The queue" and "Queue
-- Groups"). A command carries what it takes from the configuration of its run, so that a list of
-- commands can be applied without one.
use Rattle.std.specs.Prelude.{◌≡◌, ℕ, ◌+◌, List, [], ◌∷◌, ◌++◌, map, length, Option, None, Some, eqb, if◌then◌else◌, sum_by, refl}
use Rattle.mail_base.specs.declared.control.Control.{Control}
use Rattle.mail_base.specs.declared.control.Draft.{Draft}
use Rattle.mail_base.specs.declared.control.Parent.{Parent}
use Rattle.mail_base.specs.declared.control.Row.{Row}
use Rattle.mail_base.specs.declared.control.State.TheVariants.{Queued}
use Rattle.mail_base.specs.declared.draw.Draw.{Draw}
use Rattle.mail_base.specs.declared.message.Back.{Back}
use Rattle.mail_base.specs.declared.message.Cut.{Cut}
use Rattle.mail_base.specs.declared.message.Message.{Message}
use Rattle.mail_base.specs.declared.outcome.Result1.{Result1}
use Rattle.spool_store.specs.Entries.{Stored, Table, ids, with_control}
use Rattle.spool_store.specs.Keepers.{after_replace}
use Rattle.spool_store.specs.Writes.{after_commit, heir, numbered}
use Rattle.queue_table.specs.Directories.{dir_of}
use Rattle.queue_table.specs.Priorities.{priority_of}
use Rattle.queue_table.specs.Results.{recorded, with_returns, with_warning}
use Rattle.queue_table.specs.declared.terms.Terms.{Terms}

-- a row of which nothing became yet
abbrev pub new_row : Draw → Row
new_row draw = record { address = draw.address; primary = draw.primary; state = Queued None }

-- the first control of a part of a message
abbrev pub new_control : Terms → Message → ℕ → Cut → Control
new_control terms message moment cut = record {
  revision = 1;
  parent = None;
  group = cut.group;
  created = moment;
  last_try = 0;
  tries = 0;
  priority = priority_of terms.factors message.size message.class (length cut.rows) 0;
  class = message.class;
  marks = message.marks;
  eight = message.eight;
  sender = cut.sender;
  kept = message.kept;
  rows = map new_row cut.rows;
  headers = message.headers;
}

abbrev pub draft_of : Terms → Message → ℕ → Cut → Draft
draft_of terms message moment cut =
    record {
      id = None;
      dir = dir_of terms cut.group;
      control = new_control terms message moment cut;
    }

abbrev pub drafts_of : Terms → Message → ℕ → List Cut → List Draft
drafts_of terms message moment cuts = map (draft_of terms message moment) cuts

-- an entry for each cut, of which the first is the parent of the others
abbrev pub accepted : Terms → Message → List Cut → ℕ → Table → Table
accepted terms message [] moment table = table
accepted terms message (cut ∷ cuts) moment table =
    after_commit table (drafts_of terms message moment cuts) (draft_of terms message moment cut)
    message.body None

-- the entries of messages that are sent for an entry, as its children, from an id on
abbrev pub brought : Terms → ℕ → Parent → ℕ → List Back → List Stored
brought terms moment parent next [] = []
brought terms moment parent next (back ∷ backs) =
    numbered next back.message.body
    (map (heir parent) (drafts_of terms back.message moment back.cuts))
    ++ brought terms moment parent (next + length back.cuts) backs

-- an entry has another control, and the entries of these messages are its children at its revision
abbrev pub with_children : Terms → ℕ → Table → ℕ → List Back → Control → Table
with_children terms moment table id backs control =
    record {
      entries = with_control id control table.entries
          ++ brought terms moment (record { id = id; revision = control.revision }) table.next
          backs;
      next = table.next + sum_by (λ back. length back.cuts) backs;
    }

-- the control of the entry of an id
abbrev pub control_at : ℕ → List Stored → Option Control
control_at id [] = None
control_at id (s ∷ entries) = if eqb s.id id then Some s.control else control_at id entries

-- the table that the control of an entry leads to; without that entry it stays
abbrev pub with_entry : (Control → Table) → Table → Option Control → Table
with_entry change table None = table
with_entry change table (Some control) = change control

-- what is asked of a table
pub data Command : Type 0 where
  Accept : (terms : Terms) (message : Message) (cuts : List Cut) (moment : ℕ) → Command
  Record : (terms : Terms) (id : ℕ) (places : List ℕ) (results : List Result1) (moment : ℕ)
      → Command
  Return : (terms : Terms) (id : ℕ) (bounces : List Back) (moment : ℕ) → Command
  Warn : (terms : Terms) (id : ℕ) (warnings : List Back) (moment : ℕ) → Command

-- the id of the entry that a command changes, if it changes one
abbrev pub changed_by : Command → Option ℕ
changed_by (Accept terms message cuts moment) = None
changed_by (Record terms id places results moment) = Some id
changed_by (Return terms id bounces moment) = Some id
changed_by (Warn terms id warnings moment) = Some id

-- the table after a command
abbrev pub after : Table → Command → Table
after table (Accept terms message cuts moment) = accepted terms message cuts moment table
after table (Record terms id places results moment) =
    with_entry
    (λ control. after_replace table id (recorded terms places results moment control))
    table (control_at id table.entries)
after table (Return terms id bounces moment) =
    with_entry
    (λ control. with_children terms moment table id bounces (with_returns table.next control))
    table (control_at id table.entries)
after table (Warn terms id warnings moment) =
    with_entry
    (λ control. with_children terms moment table id warnings (with_warning control))
    table (control_at id table.entries)

-- the table after these commands, in their order
abbrev pub applied : Table → List Command → Table
applied table [] = table
applied table (command ∷ commands) = applied (after table command) commands

-- a message of two cuts becomes the entries 1 and 2 of a table without entries, and 3 is free then
example : (terms : Terms) (message : Message) (cut other : Cut) (moment : ℕ)
    → (ids (after (record { entries = []; next = 1 })
    (Accept terms message (cut ∷ other ∷ []) moment)).entries
    ≡ 1 ∷ 2 ∷ [])
    × ((after (record { entries = []; next = 1 })
    (Accept terms message (cut ∷ other ∷ []) moment)).next
    ≡ 3)
example terms message cut other moment = (refl, refl)
