-- Messages and cuts whose controls have a text, and tables that may be changed (own).
use Rattle.std.specs.Prelude.{◌<◌, ◌≤◌, List, Option, length, All, FitsSigned, IfSome}
use Rattle.std.specs.Int.{w64}
use Rattle.mail_base.specs.Limits.{most_rows}
use Rattle.mail_base.specs.Texts.{IsAddress, IsBracketed, IsHeader, IsLine}
use Rattle.mail_base.specs.declared.draw.Draw.{Draw}
use Rattle.mail_base.specs.declared.message.Cut.{Cut}
use Rattle.mail_base.specs.declared.message.Message.{Message}
use Rattle.qf_format.specs.Valid.{AreKept}
use Rattle.spool_disk.specs.Disk.{FileMap}
use Rattle.spool_store.specs.Stores.{Agrees}
use Rattle.queue_table.specs.Calls.{AreDirs, store}
use Rattle.queue_table.specs.declared.table.Table.{Table}

abbrev pub HasAddress : Draw → Type 0
HasAddress draw = IsAddress draw.address

pub record IsSampleCut (cut : Cut) : Type 0 where
  pub sender_form : IsBracketed cut.sender
  pub group_form : IsLine cut.group
  pub some : 0 < length cut.rows
  pub few : length cut.rows ≤ most_rows
  pub each : All HasAddress cut.rows

-- those of a message
pub record AreSampleCuts (cuts : List Cut) : Type 0 where
  pub some : 0 < length cuts
  pub each : All IsSampleCut cuts

pub record IsSampleMessage (m : Message) : Type 0 where
  pub class_range : FitsSigned w64 m.class
  pub kept_form : AreKept m.kept
  pub headers_form : All IsHeader m.headers

-- its store has what the files say that are told, and the directory of each group is one of its own
pub record IsReady (told : Option FileMap) (t : Table) : Type 0 where
  pub agrees : IfSome told (Agrees (store t))
  pub dirs : AreDirs t.terms (store t).dirs
