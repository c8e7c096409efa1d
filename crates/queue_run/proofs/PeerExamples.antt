-- The peers of mailers: a list with a host that isn't known, one that is, two addresses in
-- brackets and one that no bracket ends; a word that is no port; a name with the dot that ends it; a
-- socket; no second word; a path that is empty.
use Rattle.std.proofs.Common.{◌≡◌, ℕ, List, [], ◌∷◌, None, refl, codes}
use Rattle.mail_base.specs.declared.mailer.Mailer.{Mailer}
use Rattle.cf_macros.specs.Expansion.{followed, value_in}
use Rattle.cf_macros.specs.Readings.{reading}
use Rattle.link_edge.specs.declared.peer.Peer.{Peer}
use Rattle.link_edge.specs.declared.peer.Peer.TheVariants.{Host, Path}
use Rattle.map_tables.specs.Answers.{Loaded}
use Rattle.queue_run.specs.Peers.{peers_of}

abbrev relay : List (List ℕ) → Mailer
relay args = record {
  name = codes "relay";
  path = codes "[IPC]";
  flags = codes "mDFMuX";
  envelope_from = None;
  header_from = None;
  envelope_to = None;
  header_to = None;
  args = args;
  line_end = 13 ∷ 10 ∷ [];
  most = 0;
  group = None;
  batch = 100;
}

abbrev maps : Loaded
maps = record {
  maps = [];
  hosts = record { address = codes "192.0.2.1"; name = codes "near.example"; aliases = codes "near" ∷ [] } ∷ [];
}

abbrev peers : List (List ℕ) → List ℕ → List Peer
peers args host = peers_of maps (relay args) ((codes "h", host) ∷ [])

by_list : peers (codes "TCP" ∷ codes "$h" ∷ codes "2525" ∷ []) (codes "far:NEAR:[2001:db8::7]:[192.0.2.9]:[::1") ≡ Host (codes "192.0.2.1") 2525 ∷ Host (codes "2001:db8::7") 2525 ∷ Host (codes "192.0.2.9") 2525 ∷ []
unfolding followed reading value_in
by_list = refl

at_no_port : peers (codes "TCP" ∷ codes "$h" ∷ codes "smtp" ∷ []) (codes "near.example") ≡ Host (codes "192.0.2.1") 25 ∷ []
unfolding followed reading value_in
at_no_port = refl

with_no_port : peers (codes "TCP" ∷ codes "$h" ∷ []) (codes "near") ≡ Host (codes "192.0.2.1") 25 ∷ []
unfolding followed reading value_in
with_no_port = refl

with_its_dot : peers (codes "TCP" ∷ codes "$h" ∷ []) (codes "near.example.:far.example.:.") ≡ Host (codes "192.0.2.1") 25 ∷ []
unfolding followed reading value_in
with_its_dot = refl

at_path : peers (codes "file" ∷ codes "/run/$h:1" ∷ codes "2525" ∷ []) (codes "lmtp") ≡ Path (codes "/run/lmtp:1") ∷ []
unfolding followed reading value_in
at_path = refl

with_no_host : peers (codes "TCP" ∷ []) (codes "near") ≡ []
with_no_host = refl

with_no_path : peers (codes "FILE" ∷ []) (codes "near") ≡ []
with_no_path = refl

at_empty_path : peers (codes "FILE" ∷ codes "$h" ∷ []) [] ≡ []
unfolding followed reading value_in
at_empty_path = refl
