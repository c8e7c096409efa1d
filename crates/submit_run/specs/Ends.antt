-- How a run ends that hands a message over, and what became of queue and devices by then (RFC 5321,
-- section 4.2.5: a message that was accepted is in the queue whole; the ends are own).
use Rattle.std.specs.Prelude.{◌≡◌, ◌⊎◌, ℕ, List, Result, Ok, Err}
use Rattle.mail_base.specs.Histories.{Rose}
use Rattle.mail_base.specs.Limits.{message_limit}
use Rattle.mail_base.specs.declared.message.Message.{Message}
use Rattle.mail_edge.specs.Seen.{ClockSeen, FilesSeen, SourceSeen}
use Rattle.mail_judge.specs.Judged.{Grounds}
use Rattle.mail_submit.specs.declared.words.SubmitWords.{SubmitWords}
use Rattle.queue_table.specs.declared.table.Table.{Table as Kept}
use Rattle.spool_disk.specs.Spooled.{Spooled}
use Rattle.spool_store.specs.Entries.{Table}
use Rattle.submit_run.specs.Inputs.{IsLarge, IsRead}
use Rattle.submit_run.specs.Messages.{IsHandedOver}
use Rattle.submit_run.specs.Taken.{IsBroken, IsSpent, IsStored}
use Rattle.submit_run.specs.declared.end.SubmitEnd.{SubmitEnd}
use Rattle.submit_run.specs.declared.end.SubmitEnd.TheVariants as ends

-- ---- devices

-- what is seen of each device at one moment
pub record Seen : Type 1 where
  pub files : FilesSeen
  pub input : SourceSeen
  pub spool : Spooled
  pub clock : ClockSeen

abbrev pub seen : FilesSeen → SourceSeen → Spooled → ClockSeen → Seen
seen files input spool clock =
    record { files = files; input = input; spool = spool; clock = clock }

-- ---- what came of the message

-- the input was read, and its text comes to this
pub record HasCome (grounds : Grounds) (words : SubmitWords) (a b : Seen)
    (outcome : Result Message SubmitEnd) : Type 0 where
  pub text : List ℕ
  pub read : IsRead words.dot (message_limit grounds.config.options) a.input b.input text
  pub is : IsHandedOver grounds a.files.map words text outcome

-- the input was read and is a message with P
pub record IsMessage (grounds : Grounds) (words : SubmitWords) (a b : Seen) (P : Message → Type 0)
    : Type 0 where
  pub message : Message
  pub come : HasCome grounds words a b (Ok message)
  pub is : P message

-- how a run ends over a table, where so much was seen of the devices before and after it
abbrev pub Ends : Grounds → SubmitWords → List (List ℕ) → Table → Seen → Seen → Kept → SubmitEnd
    → Type 0
Ends grounds words dirs table a b kept ends.Done = IsMessage grounds words a b
    (λ message. IsStored grounds.config grounds.maps table message a.clock b.clock dirs a.spool
    b.spool kept)
Ends grounds words dirs table a b kept (ends.MessageRefused code) =
    ((code ≡ 552) × IsLarge words.dot (message_limit grounds.config.options) a.input b.input)
    ⊎ HasCome grounds words a b (Err (ends.MessageRefused code))
Ends grounds words dirs table a b kept ends.NoRecipient =
    HasCome grounds words a b (Err ends.NoRecipient)
Ends grounds words dirs table a b kept (ends.BadRecipient place error) =
    HasCome grounds words a b (Err (ends.BadRecipient place error))
Ends grounds words dirs table a b kept ends.ReadFault = Rose a.input.faults b.input.faults
Ends grounds words dirs table a b kept ends.SpoolFault = IsMessage grounds words a b
    (λ message. IsBroken grounds.config grounds.maps table message a.clock b.clock dirs a.spool
    b.spool)
Ends grounds words dirs table a b kept ends.FilesFault = Rose a.files.faults b.files.faults
Ends grounds words dirs table a b kept ends.IdsSpent = IsMessage grounds words a b
    (λ message. IsSpent grounds.config grounds.maps table message a.clock b.clock)
Ends grounds words dirs table a b kept ends.NoMemory = Unit {0}
