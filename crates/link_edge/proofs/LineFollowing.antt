-- Events that may stand behind a history of a dialer.
use Rattle.std.proofs.Common.{◌≡◌, ℕ, ◌≤◌, true, List, [], ◌∷◌, ◌++◌, sym, subst, append_assoc, append-nil}
use Rattle.std.specs.Prelude.{count_by}
use mathlib.Core.Bool.{true≢false}
use Rattle.std.proofs.lemmas.Bool.{eqb-true}
use Rattle.link_edge.specs.declared.dial_event.DialEvent.{DialEvent}
use Rattle.link_edge.specs.declared.dial_event.DialEvent.TheVariants.{Dialled, Undialled, Read, Unread, Wrote, Unwritten, Closed}
use Rattle.link_edge.specs.Lines.{AllFollow, Follows, NumbersOnce, gives}
use Rattle.link_edge.proofs.Following.{one_more_number}
use Rattle.link_edge.proofs.LineSounding.{count_push}

-- a dial that follows has a number that wasn't given
unused_number : (n : ℕ) (history : List DialEvent) (event : DialEvent) → Follows history event → gives n event ≡ true → count_by (gives n) history ≡ 0
unused_number n history (Dialled peer line missed) h t = let P : ℕ → Type 0 = λ m. count_by (gives m) history ≡ 0 in subst P (eqb-true line n t) h
unused_number n history (Undialled peer missed) h t = absurd (true≢false (sym t))
unused_number n history (Read line bytes) h t = absurd (true≢false (sym t))
unused_number n history (Unread line) h t = absurd (true≢false (sym t))
unused_number n history (Wrote line bytes) h t = absurd (true≢false (sym t))
unused_number n history (Unwritten line) h t = absurd (true≢false (sym t))
unused_number n history (Closed line) h t = absurd (true≢false (sym t))

-- one event more keeps the numbers apart
once_one : (history : List DialEvent) (event : DialEvent) → NumbersOnce history → Follows history event → NumbersOnce (history ++ event ∷ [])
once_one history event once follows = λ n. let P : ℕ → Type 0 = λ m. m ≤ 1 in subst P (sym (count_push (gives n) history event)) (one_more_number (gives n event) (count_by (gives n) history) (once n) (unused_number n history event follows))

-- events that follow keep the numbers apart
pub once_all : (history events : List DialEvent) → NumbersOnce history → AllFollow history events → NumbersOnce (history ++ events)
once_all history [] once follow = let P : List DialEvent → Type 0 = λ xs. NumbersOnce xs in subst P (sym (append-nil history)) once
once_all history (event ∷ events) once follow =
    let P : List DialEvent → Type 0 = λ xs. NumbersOnce xs in
    subst P (append_assoc history (event ∷ []) events) (once_all (history ++ event ∷ []) events (once_one history event once follow.0) follow.1)
