-- Lists of hosts, as they are cut, and the peers that come of them.
use Rattle.std.proofs.Common.{◌≡◌, ◌==◌, ◌&&◌, ℕ, ◌+◌, ◌-◌, ◌<◌, ◌≤◌, List, [], ◌∷◌, ◌++◌, Bool, true, false, not, cond, length, take, drop, get_or, refl, sym, ap, ◌∙◌, arith, ◌⊎◌, inl, inr}
use Rattle.std.specs.Prelude.{if◌then◌else◌, Some, None}
use Rattle.std.specs.List.{flat_map}
use Rattle.std.specs.Option.{option_map, option_to_list}
use Rattle.std.proofs.lemmas.Bool.{cond-true, cond-false, eq-eqb, ne_eqb}
use Rattle.std.proofs.Math.Bool.{and-false, true≢false}
use Rattle.std.proofs.lemmas.List.{append-nil, append_assoc, drop_more, get_or-drop, take_more, length-drop}
use Rattle.map_tables.specs.Answers.{Loaded}
use Rattle.link_edge.specs.declared.peer.Peer.{Peer}
use Rattle.queue_run.specs.Peers.{address_of, cut_at, peer_at, with_byte, without_last}

-- ---- texts that are cut at colons

-- a text in front of the first of these
abbrev pub behind : List ℕ → List (List ℕ) → List (List ℕ)
behind text [] = text ∷ []
behind text (first ∷ texts) = (text ++ first) ∷ texts

-- a byte of the first text ends the one in front of it
behind_with : (text : List ℕ) (byte : ℕ) (texts : List (List ℕ)) → behind text (with_byte byte texts) ≡ behind (text ++ byte ∷ []) texts
behind_with text byte [] = refl
behind_with text byte (first ∷ texts) = ap (λ q. q ∷ texts) (sym (append_assoc text (byte ∷ []) first))

-- nothing in front of the texts that a text is cut into
some_with : (byte : ℕ) (texts : List (List ℕ)) → behind [] (with_byte byte texts) ≡ with_byte byte texts
some_with byte [] = refl
some_with byte (first ∷ texts) = refl

some_by : (b : Bool) (byte : ℕ) (texts more : List (List ℕ)) → behind [] (cond b ([] ∷ texts) (with_byte byte more)) ≡ cond b ([] ∷ texts) (with_byte byte more)
some_by true byte texts more = refl
some_by false byte texts more = some_with byte more

pub behind_none : (inside : Bool) (text : List ℕ) → behind [] (cut_at inside text) ≡ cut_at inside text
behind_none inside [] = refl
behind_none inside (byte ∷ bytes) = some_by (byte == 58 && not inside) byte _ _

-- whether what follows a byte stands in brackets
abbrev pub inside_after : Bool → ℕ → Bool
inside_after inside byte = if byte == 91 then true else if byte == 93 then false else inside

-- where nothing is cut
pub not_cut : (byte : ℕ) (inside : Bool) → (byte ≡ 58 × inside ≡ true) ⊎ (byte ≡ 58 → ⊥) → (byte == 58 && not inside) ≡ false
not_cut byte inside (inl held) = ap (λ b. byte == 58 && not b) held.1 ∙ and-false (byte == 58)
not_cut byte inside (inr other) = ap (λ b. b && not inside) (ne_eqb byte 58 other)

-- a byte at which nothing is cut belongs to the host that is read
byte_more : (inside : Bool) (byte : ℕ) (host rest : List ℕ) → (byte == 58 && not inside) ≡ false
    → behind (host ++ byte ∷ []) (cut_at (inside_after inside byte) rest) ≡ behind host (cut_at inside (byte ∷ rest))
byte_more inside byte host rest not_cut =
    sym (ap (behind host) (cond-false (byte == 58 && not inside) ([] ∷ cut_at false rest) (with_byte byte (cut_at (inside_after inside byte) rest)) not_cut) ∙ behind_with host byte (cut_at (inside_after inside byte) rest))

-- ---- the peers of the texts

-- those of one host
abbrev pub peers_at : Loaded → ℕ → List ℕ → List Peer
peers_at maps port host = option_to_list (option_map (peer_at port) (address_of maps host))

-- a colon ends a host
host_ends : (f : List ℕ → List Peer) (peers : List Peer) (host rest : List ℕ)
    → (peers ++ flat_map f (host ∷ [])) ++ flat_map f (behind [] (cut_at false rest)) ≡ peers ++ flat_map f (behind host (cut_at false (58 ∷ rest)))
host_ends f peers host rest =
    append_assoc peers (f host ++ []) (flat_map f (behind [] (cut_at false rest)))
    ∙ ap (λ q. peers ++ q)
    (ap (λ q. q ++ flat_map f (behind [] (cut_at false rest))) (append-nil (f host))
    ∙ ap (λ q. f host ++ flat_map f q) (behind_none false rest)
    ∙ ap (λ q. f q ++ flat_map f (cut_at false rest)) (sym (append-nil host)))

-- a step of the loop at a colon
pub at_colon : (f : List ℕ → List Peer) (peers : List Peer) (list : List ℕ) (begin place : ℕ) (inside : Bool) → place < length list
    → get_or list place 0 ≡ 58 → inside ≡ false
    → (peers ++ flat_map f (take (place - begin) (drop begin list) ∷ [])) ++ flat_map f (behind (take (place + 1 - (place + 1)) (drop (place + 1) list)) (cut_at inside (drop (place + 1) list)))
    ≡ peers ++ flat_map f (behind (take (place - begin) (drop begin list)) (cut_at inside (drop place list)))
at_colon f peers list begin place true within colon outside = absurd (true≢false outside)
at_colon f peers list begin place false within colon outside =
    let host = take (place - begin) (drop begin list) in
    let rest = drop (place + 1) list in
    let none : place + 1 - (place + 1) ≡ 0 = omega arith in
    ap (λ n. (peers ++ flat_map f (host ∷ [])) ++ flat_map f (behind (take n rest) (cut_at false rest))) none
    ∙ host_ends f peers host rest
    ∙ ap (λ q. peers ++ flat_map f (behind host (cut_at false q))) (ap (λ b. b ∷ rest) (sym colon) ∙ sym (drop_more list place 0 within))

-- a byte more of the host that is read
host_more : (list : List ℕ) (begin place : ℕ) → begin ≤ place → place < length list
    → take (place + 1 - begin) (drop begin list) ≡ take (place - begin) (drop begin list) ++ get_or list place 0 ∷ []
host_more list begin place from within =
    let more : place + 1 - begin ≡ place - begin + 1 = omega arith in
    let at : begin + (place - begin) ≡ place = omega arith in
    ap (λ n. take n (drop begin list)) more
    ∙ take_more (drop begin list) (place - begin) 0 (omega (arith, length-drop begin list))
    ∙ ap (λ b. take (place - begin) (drop begin list) ++ b ∷ []) (get_or-drop begin list (place - begin) 0 ∙ ap (λ n. get_or list n 0) at)

-- a step of the loop at another byte
pub at_other : (f : List ℕ → List Peer) (peers : List Peer) (list : List ℕ) (begin place : ℕ) (inside : Bool) → begin ≤ place → place < length list
    → (get_or list place 0 == 58 && not inside) ≡ false
    → peers ++ flat_map f (behind (take (place + 1 - begin) (drop begin list)) (cut_at (inside_after inside (get_or list place 0)) (drop (place + 1) list)))
    ≡ peers ++ flat_map f (behind (take (place - begin) (drop begin list)) (cut_at inside (drop place list)))
at_other f peers list begin place inside from within not_cut =
    let host = take (place - begin) (drop begin list) in
    let rest = drop (place + 1) list in
    let byte = get_or list place 0 in
    ap (λ q. peers ++ flat_map f q)
    (ap (λ q. behind q (cut_at (inside_after inside byte) rest)) (host_more list begin place from within)
    ∙ byte_more inside byte host rest not_cut
    ∙ ap (λ q. behind host (cut_at inside q)) (sym (drop_more list place 0 within)))

-- ---- texts that a byte ends

mapped_by : (b : Bool) (first : ℕ) (text : List ℕ) → option_map (λ q. first ∷ q) (cond b (Some text) None) ≡ cond b (Some (first ∷ text)) None
mapped_by true first text = refl
mapped_by false first text = refl

last_by : (end byte : ℕ) (text : List ℕ) → without_last end (text ++ byte ∷ []) ≡ cond (byte == end) (Some text) None
last_by end byte [] = refl
last_by end byte (first ∷ []) = mapped_by (byte == end) first []
last_by end byte (first ∷ next ∷ text) = ap (option_map (λ q. first ∷ q)) (last_by end byte (next ∷ text)) ∙ mapped_by (byte == end) first (next ∷ text)

-- a text that a byte ends
pub with_last : (end : ℕ) (text front : List ℕ) (byte : ℕ) → text ≡ front ++ byte ∷ [] → byte ≡ end → without_last end text ≡ Some front
with_last end text front byte is same =
    ap (without_last end) is ∙ last_by end byte front ∙ cond-true (byte == end) (Some front) None (eq-eqb byte end same)

-- one that another one ends
pub lacks_last : (end : ℕ) (text front : List ℕ) (byte : ℕ) → text ≡ front ++ byte ∷ [] → (byte ≡ end → ⊥) → without_last end text ≡ None
lacks_last end text front byte is other =
    ap (without_last end) is ∙ last_by end byte front ∙ cond-false (byte == end) (Some front) None (ne_eqb byte end other)
