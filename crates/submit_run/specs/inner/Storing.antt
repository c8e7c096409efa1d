-- What taking a message into the table comes to. It need not be believed: only private contracts cite
-- it.
use Rattle.std.specs.Prelude.{◌≡◌, ℕ, List, All}
use Rattle.mail_base.specs.Drawing.{AreRows}
use Rattle.mail_base.specs.Texts.{IsHeader}
use Rattle.mail_base.specs.declared.config.Config.{Config}
use Rattle.mail_base.specs.declared.message.Message.{Message}
use Rattle.mail_edge.specs.Seen.{ClockSeen}
use Rattle.map_tables.specs.Answers.{Loaded}
use Rattle.queue_table.specs.declared.table.Table.{Table as Kept}
use Rattle.spool_disk.specs.Spooled.{Spooled}
use Rattle.spool_store.specs.Entries.{Table}
use Rattle.submit_run.specs.Parties.{kept as kept_here}
use Rattle.submit_run.specs.Taken.{IsBroken, IsSpent, IsStored}
use Rattle.submit_run.specs.declared.end.SubmitEnd.{SubmitEnd}
use Rattle.submit_run.specs.declared.end.SubmitEnd.TheVariants as ends

abbrev pub Stores : Config → Loaded → Table → Message → ClockSeen → ClockSeen → List (List ℕ)
    → Spooled → Spooled → Kept → SubmitEnd → Type 0
Stores config maps table message c d dirs a b kept ends.Done =
    IsStored config maps table message c d dirs a b kept
Stores config maps table message c d dirs a b kept ends.SpoolFault =
    IsBroken config maps table message c d dirs a b
Stores config maps table message c d dirs a b kept ends.IdsSpent =
    IsSpent config maps table message c d
Stores config maps table message c d dirs a b kept ends.NoMemory = Unit {0}
Stores config maps table message c d dirs a b kept (ends.MessageRefused code) = ⊥
Stores config maps table message c d dirs a b kept ends.NoRecipient = ⊥
Stores config maps table message c d dirs a b kept (ends.BadRecipient place error) = ⊥
Stores config maps table message c d dirs a b kept ends.ReadFault = ⊥
Stores config maps table message c d dirs a b kept ends.FilesFault = ⊥

-- a message has its parts in their forms
pub record IsFit (message : Message) : Type 0 where
  pub headers : All IsHeader message.headers
  pub kept_is : message.kept ≡ kept_here
  pub rows : AreRows message.rows
