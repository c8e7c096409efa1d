-- What is planned of a message that is to be taken into a table (own).
use Rattle.std.specs.Prelude.{ℕ, ◌+◌, ◌<◌, ◌≤◌, length}
use Rattle.mail_base.specs.Limits.{most_rows}
use Rattle.mail_base.specs.declared.config.Config.{Config}
use Rattle.mail_base.specs.declared.message.Message.{Message}
use Rattle.map_tables.specs.Answers.{Loaded}
use Rattle.queue_table.specs.Calls.{IsAccepting}
use Rattle.queue_table.specs.declared.accepting.Accepting.{Accepting}
use Rattle.queue_table.specs.declared.table.Table.{Table as Kept}
use Rattle.mail_made.specs.Messages.{IsTakenIn, Made, headed, ids_for, last_id}

-- what is planned takes a message in under that id, as what the configuration makes of it
pub record IsMade (config : Config) (maps : Loaded) (moment id : ℕ) (kept : Kept)
    (message : Message) (accepting : Accepting) : Type 0 where
  pub made : Made
  pub taken : IsTakenIn config maps moment message id made
  pub accepts : IsAccepting kept (headed made.first message) made.cuts moment accepting

-- an id is wanting for one of the parts of a message that was to be taken in under that id
pub record LacksIds (config : Config) (maps : Loaded) (moment id : ℕ) (message : Message)
    : Type 0 where
  pub made : Made
  pub taken : id ≤ last_id → IsTakenIn config maps moment message id made
  pub few : length made.cuts ≤ most_rows
  pub wanting : last_id + 1 < id + ids_for made.cuts
