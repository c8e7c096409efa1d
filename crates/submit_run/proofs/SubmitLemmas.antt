-- How a run ends that hands a message over.
use Rattle.std.proofs.Common.{◌≡◌, ℕ, ◌<◌, ◌==◌, ◌^◌, min, List, Ok, arith, subst}
use Rattle.std.proofs.lemmas.Bool.{cond_both}
use Rattle.mail_base.specs.Limits.{message_limit, most_message}
use Rattle.mail_base.specs.declared.config.Config.{Config}
use Rattle.mail_base.specs.declared.message.Message.{Message}
use Rattle.mail_base.specs.declared.options.Options.{Options}
use Rattle.map_tables.specs.Answers.{Loaded}
use Rattle.mail_judge.specs.Judged.{Grounds}
use Rattle.mail_submit.specs.declared.words.SubmitWords.{SubmitWords}
use Rattle.queue_table.specs.declared.table.Table.{Table as Kept}
use Rattle.spool_store.specs.Entries.{Table}
use Rattle.submit_run.specs.Ends.{Ends, Seen}
use Rattle.submit_run.specs.Inputs.{IsRead}
use Rattle.submit_run.specs.Messages.{IsHandedOver}
use Rattle.submit_run.specs.inner.Storing.{Stores}
use Rattle.submit_run.specs.declared.end.SubmitEnd.{SubmitEnd}
use Rattle.submit_run.specs.declared.end.SubmitEnd.TheVariants as ends

-- a message's limit is far below the greatest number
pub limit_fits : (options : Options) → message_limit options < 2 ^ 62
unfolding most_message
limit_fits options =
    cond_both (options.max_message_size == 0) most_message (min options.max_message_size most_message) (λ n. n < 2 ^ 62) (λ h. omega arith) (λ h. omega arith)

module _ (grounds : Grounds) (words : SubmitWords) (dirs : List (List ℕ)) (table : Table) (a b : Seen) (kept : Kept) (text : List ℕ) (message : Message) where
  ends_so : (result : SubmitEnd) → IsRead words.dot (message_limit grounds.config.options) a.input b.input text → IsHandedOver grounds a.files.map words text (Ok message)
      → Stores grounds.config grounds.maps table message a.clock b.clock dirs a.spool b.spool kept result → Ends grounds words dirs table a b kept result
  ends_so ends.Done read is stores = record { message = message; come = record { text = text; read = read; is = is }; is = stores }
  ends_so ends.SpoolFault read is stores = record { message = message; come = record { text = text; read = read; is = is }; is = stores }
  ends_so ends.IdsSpent read is stores = record { message = message; come = record { text = text; read = read; is = is }; is = stores }
  ends_so ends.NoMemory read is stores = tt
  ends_so (ends.MessageRefused code) read is stores = absurd stores
  ends_so ends.NoRecipient read is stores = absurd stores
  ends_so (ends.BadRecipient place error) read is stores = absurd stores
  ends_so ends.ReadFault read is stores = absurd stores
  ends_so ends.FilesFault read is stores = absurd stores

  -- what came of a message that was to be taken in
  pub ends_stored : (result : SubmitEnd) (config : Config) (maps : Loaded) → config ≡ grounds.config → maps ≡ grounds.maps → IsRead words.dot (message_limit grounds.config.options) a.input b.input text → IsHandedOver grounds a.files.map words text (Ok message)
      → Stores config maps table message a.clock b.clock dirs a.spool b.spool kept result → Ends grounds words dirs table a b kept result
  ends_stored result config maps config_is maps_are read is stores =
      let under : Stores grounds.config maps table message a.clock b.clock dirs a.spool b.spool kept result = subst (λ (q : Config). Stores q maps table message a.clock b.clock dirs a.spool b.spool kept result) config_is stores in
      ends_so result read is (subst (λ (q : Loaded). Stores grounds.config q table message a.clock b.clock dirs a.spool b.spool kept result) maps_are under)
