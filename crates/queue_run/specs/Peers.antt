-- The peers of a network mailer (Sendmail Installation and Operation Guide, M: Define Mailer, its
-- field A with TCP and FILE, and lists of hosts by colons; hosts(5); that colons within brackets
-- cut no host, that a port which is no number of at most 65,535 is 25, and that FILE with no path
-- has no peer, are own).
use Rattle.std.specs.Prelude.{◌≡◌, ℕ, ◌+◌, ◌*◌, ◌-◌, List, [], ◌∷◌, Option, Some, None, Bool, true, false, ◌==◌, ◌&&◌, nat_le, not, length, fold, codes, if◌then◌else◌, option_to_list, slice_get, unwrap_or, refl}
use Rattle.std.specs.List.{flat_map, list_all}
use Rattle.std.specs.Option.{option_map}
use Rattle.mail_base.specs.Notes.{is_digit}
use Rattle.mail_base.specs.declared.mailer.Mailer.{Mailer}
use Rattle.cf_macros.specs.Expansion.{expanded}
use Rattle.link_edge.specs.declared.peer.Peer.{Peer}
use Rattle.link_edge.specs.declared.peer.Peer.TheVariants.{Host, Path}
use Rattle.addr_route.specs.Errors.{is_like}
use Rattle.map_tables.specs.Answers.{Loaded}
use Rattle.map_tables.specs.Hosts.{host_address}
use Rattle.ruleset_run.specs.Sites.{Macros}

-- ---- lists of hosts

-- a list with a byte more at its first text
abbrev pub with_byte : ℕ → List (List ℕ) → List (List ℕ)
with_byte byte [] = (byte ∷ []) ∷ []
with_byte byte (text ∷ texts) = (byte ∷ text) ∷ texts

-- a text at its colons (58) outside brackets (91, 93)
abbrev pub cut_at : Bool → List ℕ → List (List ℕ)
cut_at inside [] = [] ∷ []
cut_at inside (byte ∷ bytes) =
    if byte == 58 && not inside then [] ∷ cut_at false bytes
    else with_byte byte (cut_at (if byte == 91 then true else if byte == 93 then false else inside) bytes)

abbrev pub hosts_in : List ℕ → List (List ℕ)
hosts_in text = cut_at false text

-- a text without the byte that ends it, where that is this one
abbrev pub without_last : ℕ → List ℕ → Option (List ℕ)
without_last end [] = None
without_last end (byte ∷ []) = if byte == end then Some [] else None
without_last end (byte ∷ next ∷ bytes) =
    option_map (λ text. byte ∷ text) (without_last end (next ∷ bytes))

-- the address of a name by the host table; a name that isn't there is looked for without the dot
-- (46) that ends it, as rulesets leave one behind a name that is whole
abbrev pub bare_address : Loaded → Option (List ℕ) → Option (List ℕ)
bare_address maps None = None
bare_address maps (Some name) = host_address name maps.hosts

abbrev pub address_or_bare : Loaded → List ℕ → Option (List ℕ) → Option (List ℕ)
address_or_bare maps name (Some address) = Some address
address_or_bare maps name None = bare_address maps (without_last 46 name)

abbrev pub address_named : Loaded → List ℕ → Option (List ℕ)
address_named maps name = address_or_bare maps name (host_address name maps.hosts)

-- what is dialled for a host: an address in brackets as it is, and a name by the host table
abbrev pub address_of : Loaded → List ℕ → Option (List ℕ)
address_of maps [] = address_named maps []
address_of maps (byte ∷ bytes) =
    if byte == 91 then without_last 93 bytes else address_named maps (byte ∷ bytes)

-- ---- ports

abbrev pub shifted : ℕ → ℕ → ℕ
shifted number byte = number * 10 + (byte - 48)

abbrev pub number_in : List ℕ → ℕ
number_in digits = fold shifted 0 digits

-- a number of one to five digits
abbrev pub is_port : List ℕ → Bool
is_port text =
    nat_le 1 (length text) && nat_le (length text) 5 && list_all is_digit text
    && nat_le (number_in text) 65535

abbrev pub port_of : Option (List ℕ) → ℕ
port_of None = 25
port_of (Some text) = if is_port text then number_in text else 25

-- ---- the peers

abbrev pub peer_at : ℕ → List ℕ → Peer
peer_at port address = Host address port

abbrev pub peers_in : Loaded → ℕ → List (List ℕ) → List Peer
peers_in maps port hosts =
    flat_map (λ host. option_to_list (option_map (peer_at port) (address_of maps host))) hosts

-- the word of A at a place, expanded
abbrev pub word_at : Mailer → Macros → ℕ → Option (List ℕ)
word_at mailer macros place =
    option_map (λ word. expanded word macros) (slice_get mailer.args place)

-- the socket of this machine at a path, if there is one
abbrev pub socket_at : List ℕ → List Peer
socket_at [] = []
socket_at (byte ∷ path) = Path (byte ∷ path) ∷ []

-- with FILE the socket at the second word, and else the hosts of that word, at the port of the
-- third. Names that aren't known are passed over
abbrev pub peers_by : Loaded → Bool → List ℕ → Option (List ℕ) → List Peer
peers_by maps true second third = socket_at second
peers_by maps false second third = peers_in maps (port_of third) (hosts_in second)

abbrev pub is_local : Mailer → Bool
is_local mailer = is_like (unwrap_or (slice_get mailer.args 0) []) (codes "FILE")

abbrev pub peers_of : Loaded → Mailer → Macros → List Peer
peers_of maps mailer macros =
    peers_by maps (is_local mailer) (unwrap_or (word_at mailer macros 1) [])
    (word_at mailer macros 2)

no_maps : Loaded
no_maps = record { maps = []; hosts = [] }

example : (hosts_in (codes "a:[::1]:b") ≡ codes "a" ∷ codes "[::1]" ∷ codes "b" ∷ [])
    × (address_of no_maps (codes "[192.0.2.7]") ≡ Some (codes "192.0.2.7"))
    × (peers_in no_maps (port_of (Some (codes "2525"))) (hosts_in (codes "far:[192.0.2.7]"))
    ≡ Host (codes "192.0.2.7") 2525 ∷ [])
    × (port_of (Some (codes "65536")) ≡ 25) × (peers_by no_maps true [] None ≡ [])
unfolding no_maps
example = (refl, refl, refl, refl, refl)
