-- Events that may stand behind a history.
use Rattle.std.proofs.Common.{◌≡◌, ℕ, ◌+◌, ◌≤◌, Bool, true, false, cond, List, [], ◌∷◌, ◌++◌, refl, sym, subst, arith, append_assoc, append-nil}
use Rattle.std.specs.Prelude.{count_by}
use mathlib.Core.Bool.{true≢false}
use Rattle.std.proofs.lemmas.Bool.{eqb-true}
use Rattle.spawn_edge.specs.declared.event.SpawnEvent.{SpawnEvent}
use Rattle.spawn_edge.specs.declared.event.SpawnEvent.TheVariants.{Began, Unbegun, Polled}
use Rattle.spawn_edge.specs.Children.{AllFollow, Follows, NumbersOnce, begins}
use Rattle.spawn_edge.proofs.Running.{count_push}

-- a start that follows has a number that wasn't given
unused_number : (n : ℕ) (history : List SpawnEvent) (event : SpawnEvent) → Follows history event → begins n event ≡ true → count_by (begins n) history ≡ 0
unused_number n history (Began start child missed) h t = let P : ℕ → Type 0 = λ m. count_by (begins m) history ≡ 0 in subst P (eqb-true child n t) h
unused_number n history (Unbegun start missed) h t = absurd (true≢false (sym t))
unused_number n history (Polled child poll) h t = absurd (true≢false (sym t))

one_more_number : (b : Bool) (count : ℕ) → count ≤ 1 → (b ≡ true → count ≡ 0) → count + cond b 1 0 ≤ 1
one_more_number true count h zero = let none = zero refl in omega arith
one_more_number false count h zero = omega arith

-- one event more keeps the numbers apart
once_one : (history : List SpawnEvent) (event : SpawnEvent) → NumbersOnce history → Follows history event → NumbersOnce (history ++ event ∷ [])
once_one history event once follows = λ n. let P : ℕ → Type 0 = λ m. m ≤ 1 in subst P (sym (count_push (begins n) history event)) (one_more_number (begins n event) (count_by (begins n) history) (once n) (unused_number n history event follows))

-- events that follow keep the numbers apart
pub once_all : (history events : List SpawnEvent) → NumbersOnce history → AllFollow history events → NumbersOnce (history ++ events)
once_all history [] once follow = let P : List SpawnEvent → Type 0 = λ xs. NumbersOnce xs in subst P (sym (append-nil history)) once
once_all history (event ∷ events) once follow =
    let P : List SpawnEvent → Type 0 = λ xs. NumbersOnce xs in
    subst P (append_assoc history (event ∷ []) events) (once_all (history ++ event ∷ []) events (once_one history event once follow.0) follow.1)
