-- Events that may stand behind a history.
use Rattle.std.proofs.Common.{◌≡◌, ℕ, ◌+◌, ◌≤◌, Bool, true, false, cond, List, [], ◌∷◌, ◌++◌, refl, sym, subst, arith, append_assoc, append-nil}
use Rattle.std.specs.Prelude.{count_by}
use mathlib.Core.Bool.{true≢false}
use Rattle.std.proofs.lemmas.Bool.{eqb-true}
use Rattle.link_edge.specs.declared.event.Event.TheVariants.{Opens, Brings, Closes, Rests, Stops}
use Rattle.link_edge.specs.declared.event.FloorEvent.{FloorEvent}
use Rattle.link_edge.specs.declared.event.FloorEvent.TheVariants.{Took, Sent, Unsent, HungUp}
use Rattle.link_edge.specs.Sessions.{AllFollow, Follows, NumbersOnce, is_sound, opens, send_event}
use Rattle.link_edge.proofs.Sessioning.{count_push}

-- these events, and then those
pub follow_join : (history some more : List FloorEvent) → AllFollow history some → AllFollow (history ++ some) more → AllFollow history (some ++ more)
follow_join history [] more h k = let P : List FloorEvent → Type 0 = λ xs. AllFollow xs more in subst P (append-nil history) k
follow_join history (event ∷ events) more h k =
    let P : List FloorEvent → Type 0 = λ xs. AllFollow xs more in
    (h.0, follow_join (history ++ event ∷ []) events more h.1 (subst P (sym (append_assoc history (event ∷ []) events)) k))

-- a send to a session to which none has failed follows
pub send_follows : (history : List FloorEvent) (session : ℕ) (bytes : List ℕ) (whole : Bool) → is_sound session history ≡ true → Follows history (send_event session bytes whole)
send_follows history session bytes true sound = sound
send_follows history session bytes false sound = sound

-- an opening that follows has a number that wasn't used
unused_number : (n : ℕ) (history : List FloorEvent) (event : FloorEvent) → Follows history event → opens n event ≡ true → count_by (opens n) history ≡ 0
unused_number n history (Took (Opens s peer)) h t = let P : ℕ → Type 0 = λ m. count_by (opens m) history ≡ 0 in subst P (eqb-true s n t) h
unused_number n history (Took (Brings s bytes)) h t = absurd (true≢false (sym t))
unused_number n history (Took (Closes s)) h t = absurd (true≢false (sym t))
unused_number n history (Took Rests) h t = absurd (true≢false (sym t))
unused_number n history (Took Stops) h t = absurd (true≢false (sym t))
unused_number n history (Sent s bytes) h t = absurd (true≢false (sym t))
unused_number n history (Unsent s) h t = absurd (true≢false (sym t))
unused_number n history (HungUp s) h t = absurd (true≢false (sym t))

pub one_more_number : (b : Bool) (count : ℕ) → count ≤ 1 → (b ≡ true → count ≡ 0) → count + cond b 1 0 ≤ 1
one_more_number true count h zero = let none = zero refl in omega arith
one_more_number false count h zero = omega arith

-- one event more keeps the numbers apart
once_one : (history : List FloorEvent) (event : FloorEvent) → NumbersOnce history → Follows history event → NumbersOnce (history ++ event ∷ [])
once_one history event once follows = λ n. let P : ℕ → Type 0 = λ m. m ≤ 1 in subst P (sym (count_push (opens n) history event)) (one_more_number (opens n event) (count_by (opens n) history) (once n) (unused_number n history event follows))

-- events that follow keep the numbers apart
pub once_all : (history events : List FloorEvent) → NumbersOnce history → AllFollow history events → NumbersOnce (history ++ events)
once_all history [] once follow = let P : List FloorEvent → Type 0 = λ xs. NumbersOnce xs in subst P (sym (append-nil history)) once
once_all history (event ∷ events) once follow =
    let P : List FloorEvent → Type 0 = λ xs. NumbersOnce xs in
    subst P (append_assoc history (event ∷ []) events) (once_all (history ++ event ∷ []) events (once_one history event once follow.0) follow.1)
