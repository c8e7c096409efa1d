-- What is handed over to the peers of a mailer, and how (RFC 2033 for the flag z; RFC 5321, section
-- 4.1.1.1, for the name of this host; RFC 6152 for whether the message was declared as 8BITMIME).
use Rattle.std.specs.Prelude.{◌≡◌, ℕ, List, length, if◌then◌else◌}
use Rattle.mail_base.specs.declared.config.Config.{Config}
use Rattle.mail_base.specs.declared.control.Control.{Control}
use Rattle.mail_base.specs.declared.mailer.Mailer.{Mailer}
use Rattle.addr_route.specs.Aims.{has_flag}
use Rattle.cf_macros.specs.Expansion.{host_name}
use Rattle.link_edge.specs.declared.peer.Peer.{Peer}
use Rattle.mailer_smtp.specs.declared.kit.Speech.{Speech}
use Rattle.mailer_smtp.specs.declared.kit.Speech.TheVariants.{Smtp, Lmtp}
use Rattle.mailer_smtp.specs.declared.letter.Letter.{Letter as Mail}
use Rattle.mailer_smtp.specs.Talks.{IsDelivery}
use Rattle.queue_run.specs.declared.batch.Batch.{Batch}
use Rattle.queue_run.specs.declared.letter.Letter.{Letter}
use Rattle.queue_run.specs.Deeds.{Talk}

-- with the flag z (122) a mailer speaks LMTP
abbrev pub speech_of : Mailer → Speech
speech_of mailer = if has_flag 122 mailer then Lmtp else Smtp

-- what is handed over for these users of an entry
abbrev pub mail_of : Config → Control → List (List ℕ) → Letter → Mail
mail_of config control users letter = record {
  host = host_name config.macros;
  sender = letter.sender;
  users = users;
  message = letter.text;
  eight = control.eight;
}

-- a batch was handed over to these peers, or that was tried, and each of its rows has a result
pub record IsHandover (config : Config) (control : Control) (batch : Batch) (mailer : Mailer)
    (peers : List Peer) (letter : Letter) (talk : Talk) : Type 0 where
  pub is : IsDelivery (speech_of mailer) (mail_of config control batch.users letter) peers
      talk.missed talk.events talk.missed_after talk.fault talk.results
  pub each : length talk.results ≡ length batch.places
