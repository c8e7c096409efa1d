-- How a run ends that takes a message of a program, and what it asked of the queue by then (the
-- manual page of Sendmail's own program; the ends are own).
use Rattle.std.specs.Prelude.{◌≡◌, ◌⊎◌, ℕ, Bool, true, false, List, [], ◌∷◌, Ok, Err}
use Rattle.mail_base.specs.Histories.{Rose}
use Rattle.mail_base.specs.Limits.{message_limit}
use Rattle.mail_base.specs.declared.message.Message.{Message}
use Rattle.mail_judge.specs.Judged.{Grounds}
use Rattle.mail_made.specs.Messages.{IsTakenIn, Made}
use Rattle.mail_made.specs.Planned.{LacksIds}
use Rattle.mail_submit.specs.declared.words.SubmitWords.{SubmitWords}
use Rattle.spool_store.specs.Entries.{Table}
use Rattle.spool_store.specs.Moves.{Moves}
use Rattle.spool_store.specs.Settled.{StandsFor}
use Rattle.queue_table.specs.Asked.{IsFront, Leaves}
use Rattle.queue_run.specs.Deeds.{Asks}
use Rattle.submit_run.specs.Ends.{HasCome, Seen as Handed, seen as handed_seen}
use Rattle.submit_run.specs.Inputs.{IsLarge, TakesSome}
use Rattle.submit_run.specs.Taken.{IsAskedAt, IsReadAtMostOnce}
use Rattle.submit_run.specs.declared.end.SubmitEnd.{SubmitEnd}
use Rattle.submit_run.specs.declared.end.SubmitEnd.TheVariants as ends
use Rattle.mail_core.specs.Effects.{Does, Effect, commanded}
use Rattle.mail_core.specs.Histories.{HandsOver}
use Rattle.mail_core.specs.Messages.{accept_of}
use Rattle.mail_core.specs.Seen.{IsSparing}
use Rattle.mail_core.specs.Sites.{Site}
use Rattle.sendmail_run.specs.Devices.{World, core_of}
use Rattle.sendmail_run.specs.Serving.{IsOverQueue, IsTakenOver}
use Rattle.sendmail_run.specs.declared.submit_mode.SubmitModeEnd.{SubmitModeEnd}
use Rattle.sendmail_run.specs.declared.submit_mode.SubmitModeEnd.TheVariants as mode_ends

-- the devices of such a run
abbrev pub handed_of : World → Handed
handed_of w = handed_seen w.files w.input w.spool w.clock

-- ---- what is asked of a table

-- the message was read, and was to be taken in at the moment of the one reading of the clock, as
-- what the configuration makes of it: that is all that was asked
pub record TakesIn (grounds : Grounds) (site : Site) (words : SubmitWords) (table : Table)
    (before after : World) (effects : List Effect) : Type 0 where
  pub message : Message
  pub come : HasCome grounds words (handed_of before) (handed_of after) (Ok message)
  pub moment : ℕ
  pub asked : IsAskedAt site.config site.maps table message before.clock after.clock moment
  pub made : Made
  pub taken : IsTakenIn site.config site.maps moment message table.next made
  pub only : effects ≡ Does (Asks (accept_of site moment message made)) ∷ []

-- an id is wanting for a part of it
pub record LacksAnId (grounds : Grounds) (site : Site) (words : SubmitWords) (table : Table)
    (before after : World) : Type 0 where
  pub message : Message
  pub come : HasCome grounds words (handed_of before) (handed_of after) (Ok message)
  pub moment : ℕ
  pub asked : IsAskedAt site.config site.maps table message before.clock after.clock moment
  pub lacks : LacksIds site.config site.maps moment table.next message

-- the input was read, and its message is refused so
abbrev pub Refuses : Grounds → SubmitWords → World → World → SubmitEnd → Type 0
Refuses grounds words before after end =
    HasCome grounds words (handed_of before) (handed_of after) (Err end)

module _ (grounds : Grounds) (site : Site) (words : SubmitWords) (table : Table)
    (before after : World) where
  -- the message is above its limit
  abbrev pub IsTooLarge : Type 0
  IsTooLarge =
      IsLarge words.dot (message_limit grounds.config.options) before.input after.input

  -- how such a run ends over a table, of which this was asked. But for the message that is taken in
  -- it is nothing
  abbrev pub AsksFor : SubmitEnd → List Effect → Type 0
  AsksFor ends.Done effects = TakesIn grounds site words table before after effects
  AsksFor ends.SpoolFault effects = TakesIn grounds site words table before after effects
      × Rose before.spool.faults after.spool.faults
  AsksFor (ends.MessageRefused code) effects = (effects ≡ [])
      × (((code ≡ 552) × IsTooLarge)
      ⊎ Refuses grounds words before after (ends.MessageRefused code))
  AsksFor ends.NoRecipient effects =
      (effects ≡ []) × Refuses grounds words before after ends.NoRecipient
  AsksFor (ends.BadRecipient place error) effects =
      (effects ≡ []) × Refuses grounds words before after (ends.BadRecipient place error)
  AsksFor ends.ReadFault effects =
      (effects ≡ []) × Rose before.input.faults after.input.faults
  AsksFor ends.FilesFault effects =
      (effects ≡ []) × Rose before.files.faults after.files.faults
  AsksFor ends.IdsSpent effects =
      (effects ≡ []) × LacksAnId grounds site words table before after
  AsksFor ends.NoMemory effects = effects ≡ []

-- whether the spool did what it was asked for
abbrev pub is_well : SubmitEnd → Bool
is_well ends.SpoolFault = false
is_well end = true

-- such a run over a table: what it asked; the files stand for the table after that, or where the
-- spool failed for it before; and so they do in each image that a stop leaves. What no call touches
-- stays, whatever the files are. Of the input a front was taken, and the clock is read once at most
pub record Submits (grounds : Grounds) (site : Site) (words : SubmitWords) (before after : World)
    (end : SubmitEnd) (table : Table) : Type 0 where
  pub effects : List Effect
  pub asked : AsksFor grounds site words table before after end effects
  pub hands : HandsOver site table effects
  pub spool : Moves before.spool after.spool (StandsFor site.dirs table)
      (Leaves commanded site.dirs table effects (is_well end))
      (IsFront commanded site.dirs table effects)
  pub spared : IsSparing site.dirs before.spool after.spool false
  pub takes : TakesSome before.input after.input
  pub clock : IsReadAtMostOnce before.clock after.clock

-- ---- the end of the mode

-- nothing was read, and a queue was opened at most
pub record IsUnread (site : Site) (before after : World) : Type 0 where
  pub input : after.input ≡ before.input
  pub clock : after.clock ≡ before.clock
  pub spool : IsTakenOver site.dirs before.spool after.spool

-- the queue couldn't be opened; there was no memory to; or the run went over what was opened
abbrev pub EndsSo : Grounds → Site → SubmitWords → World → World → SubmitModeEnd → Type 0
EndsSo grounds site words before after mode_ends.NotOpened =
    IsUnread site before after × Rose before.spool.faults after.spool.faults
EndsSo grounds site words before after mode_ends.NoMemory = IsUnread site before after
EndsSo grounds site words before after (mode_ends.Over end) =
    IsOverQueue site (core_of before) (Submits grounds site words before after end)
