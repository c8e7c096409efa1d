-- The sender that a mailer is given (Sendmail Installation and Operation Guide, R and S: rewriting
-- rules, the sets 3, 1 and 4; M: define mailer, its field S; RFC 5321, section 4.5.5; the sender
-- after an error is own).
use Rattle.std.specs.Prelude.{◌≡◌, ℕ, true, false, List, [], None, Result, Ok, Err, bytes_eq}
use Rattle.mail_base.specs.Drawing.{null_sender}
use Rattle.mail_base.specs.Texts.{without_angles}
use Rattle.mail_base.specs.declared.config.Config.{Config}
use Rattle.mail_base.specs.declared.mailer.Mailer.{Mailer}
use Rattle.mail_base.specs.declared.route.Cause.{Cause}
use Rattle.mail_base.specs.declared.token.Token.{Token}
use Rattle.addr_tokens.specs.Joins.{joined}
use Rattle.map_tables.specs.Answers.{Loaded}
use Rattle.ruleset_run.specs.Sites.{Macros, site_of}
use Rattle.ruleset_run.specs.Sets.{Passes, sender_sets}

-- the list joined without blanks; where there is none, the address without its brackets
abbrev pub sent : List ℕ → Result (List Token) Cause → List ℕ
sent address (Ok list) = joined None list
sent address (Err cause) = without_angles address

pub data Sends (config : Config) (maps : Loaded) (macros : Macros) (mailer : Mailer)
    (address : List ℕ) : List ℕ → Type 0 where
  null : bytes_eq address null_sender ≡ true → Sends config maps macros mailer address []
  sends : (answer : Result (List Token) Cause) → bytes_eq address null_sender ≡ false
      → Passes (site_of config maps) macros (sender_sets mailer) address answer
      → Sends config maps macros mailer address (sent address answer)
