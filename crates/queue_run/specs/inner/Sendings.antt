-- How something is sent for an entry. It need not be believed: only private contracts cite it.
use Rattle.std.specs.Prelude.{◌≡◌, ℕ, List, [], All, Contains, true, pos, Result, Ok, Err}
use Rattle.mail_base.specs.Histories.{Rose}
use Rattle.mail_base.specs.Texts.{IsHeader}
use Rattle.mail_base.specs.declared.config.Config.{Config}
use Rattle.mail_base.specs.declared.control.Control.{Control}
use Rattle.mail_base.specs.declared.draw.Draw.{Draw}
use Rattle.mail_base.specs.declared.message.Back.{Back}
use Rattle.mail_base.specs.declared.message.Cut.{Cut}
use Rattle.mail_base.specs.declared.message.Message.{Message}
use Rattle.map_tables.specs.Answers.{Loaded}
use Rattle.queue_plan.specs.Cuts.{AreForms}
use Rattle.spool_store.specs.declared.held.Held.{Held}
use Rattle.queue_table.specs.Calls.{store}
use Rattle.queue_table.specs.declared.table.Table.{Table as Kept}
use Rattle.queue_run.specs.Backs.{AreSentTo, Drawer}
use Rattle.queue_run.specs.declared.runner.RunStop.{RunStop}
use Rattle.queue_run.specs.declared.runner.RunStop.TheVariants as stop

-- it holds of the control of the entry of an id
abbrev pub OfEntry : Kept → ℕ → (Control → Type 0) → Type 0
OfEntry kept id Holds =
    (h : Held) → Contains (store kept).entries h → h.entry.id ≡ id → Holds h.entry.control

-- parts of the rows that were drawn for an entry's receiver
pub record HasRows (d : Drawer) (config : Config) (maps : Loaded) (control : Control)
    (cuts : List Cut) : Type 0 where
  pub rows : List Draw
  pub sent : AreSentTo d config maps control rows cuts

-- a message that was made here may become an entry
pub record IsPlain (message : Message) : Type 0 where
  pub class : message.class ≡ pos 0
  pub kept : message.kept ≡ record { protocol = []; helo = []; client = [] }
  pub marked : message.marks.bounce ≡ true
  pub headers : All IsHeader message.headers

-- a message that was made so, with its parts
pub record IsBackMade (d : Drawer) (config : Config) (maps : Loaded) (control : Control)
    (IsSo : Message → Type 0) (back : Back) : Type 0 where
  pub message : IsSo back.message
  pub plain : IsPlain back.message
  pub rows : HasRows d config maps control back.cuts
  pub forms : AreForms back.cuts

-- the making of a message fails where files failed, or for want of memory
abbrev pub HasDrawFault : {T : Type 0} → ℕ → ℕ → Result T RunStop → Type 0
HasDrawFault before now (Ok made) = now ≡ before
HasDrawFault before now (Err stop.FilesFault) = Rose before now
HasDrawFault before now (Err stop.NoMemory) = now ≡ before
HasDrawFault before now (Err stop.SpoolFault) = ⊥
HasDrawFault before now (Err stop.IdsSpent) = ⊥

-- the reading of a body fails where the spool did, or for want of memory
abbrev pub HasReadFault : {T : Type 0} → ℕ → ℕ → Result T RunStop → Type 0
HasReadFault before now (Ok body) = now ≡ before
HasReadFault before now (Err stop.SpoolFault) = Rose before now
HasReadFault before now (Err stop.NoMemory) = now ≡ before
HasReadFault before now (Err stop.FilesFault) = ⊥
HasReadFault before now (Err stop.IdsSpent) = ⊥
