-- The macros of a header that is made on receipt. It need not be believed: only private contracts
-- cite it.
use Rattle.std.specs.Prelude.{◌≡◌, ℕ}
use Rattle.mail_base.specs.declared.message.Message.{Message}
use Rattle.ruleset_run.specs.Sites.{Macros}
use Rattle.mail_made.specs.Messages.{AreDates, Dates, dated_macros}

-- macros are those of a message with its dates at a moment and an id, over those of its session
pub record IsMacros (session : Macros) (moment : ℕ) (message : Message) (id : ℕ)
    (macros : Macros) : Type 0 where
  pub dates : Dates
  pub are : AreDates message moment dates
  pub is : macros ≡ dated_macros session dates id
