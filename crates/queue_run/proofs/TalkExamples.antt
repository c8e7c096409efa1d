-- Deliveries to a peer: the flag z; a host that can't be dialled, with three dials missed before, where
-- one of two rows can't be asked for; and the same where that dial isn't told either.
use Rattle.std.proofs.Common.{◌≡◌, ℕ, List, [], ◌∷◌, true, None, refl, codes}
use Rattle.mail_base.specs.Configs.{initial}
use Rattle.mail_base.specs.declared.control.Control.{Control}
use Rattle.mail_base.specs.declared.mailer.Mailer.{Mailer}
use Rattle.mail_base.specs.declared.outcome.Result1.{Result1}
use Rattle.mail_base.specs.declared.outcome.Result1.TheVariants.{Deferred, Failed}
use Rattle.mail_base.specs.declared.route.Resolved.TheVariants.{Goes}
use Rattle.cf_macros.specs.Expansion.{followed, value_in}
use Rattle.cf_macros.specs.Readings.{reading}
use Rattle.link_edge.specs.declared.dial_event.DialEvent.TheVariants.{Undialled}
use Rattle.link_edge.specs.declared.peer.Peer.{Peer}
use Rattle.link_edge.specs.declared.peer.Peer.TheVariants.{Host}
use Rattle.mailer_smtp.specs.Talks.{last, tried, undialled, untold}
use Rattle.mailer_smtp.specs.declared.kit.Speech.TheVariants.{Lmtp, Smtp}
use Rattle.queue_run.specs.declared.batch.Batch.{Batch}
use Rattle.queue_run.specs.declared.letter.Letter.{Letter}
use Rattle.queue_run.specs.Handovers.{IsHandover, speech_of}

abbrev relay : List ℕ → Mailer
relay flags = record {
  name = codes "relay";
  path = codes "[IPC]";
  flags = flags;
  envelope_from = None;
  header_from = None;
  envelope_to = None;
  header_to = None;
  args = codes "TCP" ∷ codes "$h" ∷ [];
  line_end = 13 ∷ 10 ∷ [];
  most = 0;
  group = None;
  batch = 100;
}

by_the_flag : (speech_of (relay (codes "mDFMuX")) ≡ Smtp) × (speech_of (relay (codes "mDFMuXz")) ≡ Lmtp)
by_the_flag = (refl, refl)

abbrev far : Peer
far = Host (codes "192.0.2.9") 25

abbrev two : Batch
two = record {
  resolved = Goes (record { mailer = codes "relay"; host = codes "far"; user = codes "ann@far" });
  places = 0 ∷ 2 ∷ [];
  users = codes "ann@far" ∷ codes "b\r@far" ∷ [];
}

abbrev letter : Letter
letter = record { body = codes "hello"; sender = codes "bob@near"; date = []; macros = []; headers = []; text = codes "\r\nhello" }

abbrev results : List Result1
results = Deferred (codes "device fault") ∷ Failed (codes "5.1.3") (codes "bad address") ∷ []

unreached : (control : Control) → IsHandover initial control two (relay (codes "mDFMuX")) (far ∷ []) letter
    (record { missed = 3; events = Undialled far 3 ∷ []; missed_after = 0; fault = true; results = results })
unfolding followed reading value_in
unreached control = record {
  is = tried (Undialled far 3 ∷ []) 0 true results refl (last far 3 0 (Undialled far 3 ∷ []) true true results undialled);
  each = refl;
}

not_told : (control : Control) → IsHandover initial control two (relay (codes "mDFMuX")) (far ∷ []) letter
    (record { missed = 3; events = []; missed_after = 4; fault = true; results = results })
unfolding followed reading value_in
not_told control = record { is = tried [] 4 true results refl (last far 3 4 [] true true results untold); each = refl }
