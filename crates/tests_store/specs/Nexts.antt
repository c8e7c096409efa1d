-- The next control of an entry, for examples (own).
use Rattle.std.specs.Prelude.{◌≡◌, ℕ, List, Some, Contains}
use Rattle.mail_base.specs.declared.control.Draft.{Draft}
use Rattle.spool_store.specs.Keepers.{raised}
use Rattle.spool_store.specs.Queue.{IsOpen}
use Rattle.spool_store.specs.declared.held.Held.{Held}

-- a draft of an entry's control at its next revision
abbrev pub next_draft : Held → Draft
next_draft h = record {
  id = Some h.entry.id;
  dir = h.entry.dir;
  control = record h.entry.control { revision = raised h.entry.control.revision };
}

-- the entry of an id has an open row
pub record HasOpen (entries : List Held) (id : ℕ) : Type 0 where
  pub held : Held
  pub among : Contains entries held
  pub is : held.entry.id ≡ id
  pub open_row : IsOpen held.entry.control

-- a draft is that of an entry with an open row
pub record IsNext (entries : List Held) (d : Draft) : Type 0 where
  pub held : Held
  pub among : Contains entries held
  pub open_row : IsOpen held.entry.control
  pub is : d ≡ next_draft held
