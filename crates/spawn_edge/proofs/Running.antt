-- The children of a history with one event more.
use Rattle.std.proofs.Common.{rules, ◌≡◌, ℕ, ◌+◌, Bool, true, false, cond, not, ◌&&◌, ◌||◌, List, [], ◌∷◌, ◌++◌, refl, sym, ◌∙◌, ap}
use Rattle.std.specs.Prelude.{nat_eq, count_by}
use mathlib.Core.Bool.{true≢false}
use Rattle.std.proofs.lemmas.Bool.{eqb-true, eq-eqb, or_right, or_left}
use Rattle.std.proofs.lemmas.List.Folds.{list_any-append}
use Rattle.std.proofs.lemmas.List.Sums.{fold_push, sum_by_push}
use Rattle.spawn_edge.specs.declared.event.Poll.TheVariants.{Runs, Over, Lost}
use Rattle.spawn_edge.specs.declared.event.SpawnEvent.{SpawnEvent}
use Rattle.spawn_edge.specs.declared.event.SpawnEvent.TheVariants.{Began, Unbegun, Polled}
use Rattle.spawn_edge.specs.declared.event.Start.{Start}
use Rattle.spawn_edge.specs.Children.{ends, is_among, is_running, running_after, running_in, without}

-- the running children after one event more
pub running_push : (history : List SpawnEvent) (event : SpawnEvent) → running_in (history ++ event ∷ []) ≡ running_after (running_in history) event
running_push history event = fold_push running_after [] history event

-- a count of events after one event more
pub count_push : (p : SpawnEvent → Bool) (history : List SpawnEvent) (event : SpawnEvent) → count_by p (history ++ event ∷ []) ≡ count_by p history + cond (p event) 1 0
count_push p history event = sum_by_push (λ e. cond (p e) 1 0) history event

-- a list with one child more
among_push : (child added : ℕ) (xs : List ℕ) → is_among child (xs ++ added ∷ []) ≡ (is_among child xs || (nat_eq added child || false))
among_push child added xs = list_any-append (λ other. nat_eq other child) xs (added ∷ [])

-- the head of a list is taken out, or not
without_head : (same left taken among : Bool) (child x : ℕ) (rest : List ℕ) → (same ≡ true → left ≡ taken) → is_among child rest ≡ (among && not taken) → nat_eq x child ≡ same → is_among child (cond (not left) (x ∷ rest) rest) ≡ ((same || among) && not taken)
without_head true true true among child x rest h k e = k ∙ none among
  where
    none : (b : Bool) → (b && false) ≡ false
    none true = refl
    none false = refl
without_head true true false among child x rest h k e = absurd (true≢false (h refl))
without_head true false true among child x rest h k e = absurd (true≢false (sym (h refl)))
without_head true false false among child x rest h k e = ap (λ b. b || is_among child rest) e
without_head false true taken among child x rest h k e = k
without_head false false taken among child x rest h k e = ap (λ b. b || is_among child rest) e ∙ k

-- those that are left where one is taken out
among_without : (child gone : ℕ) (xs : List ℕ) → is_among child (without gone xs) ≡ (is_among child xs && not (nat_eq child gone))
among_without child gone [] = refl
among_without child gone (x ∷ xs) = without_head (nat_eq x child) (nat_eq x gone) (nat_eq child gone) (is_among child xs) child x (without gone xs) (λ t. ap (λ n. nat_eq n gone) (eqb-true x child t)) (among_without child gone xs) refl

-- the two numbers in the other order
eq_swap : (a b : ℕ) → nat_eq a b ≡ nat_eq b a
eq_swap a b = search rules

-- what is left where another is taken out
kept_other : (child gone : ℕ) (xs : List ℕ) → nat_eq gone child ≡ false → is_among child xs ≡ true → is_among child (without gone xs) ≡ true
kept_other child gone xs other there = among_without child gone xs ∙ ap (λ b. b && not (nat_eq child gone)) there ∙ ap not (eq_swap child gone ∙ other)

-- what is taken out isn't left
taken_out : (child gone : ℕ) (xs : List ℕ) → nat_eq gone child ≡ true → is_among child (without gone xs) ≡ false
taken_out child gone xs same = among_without child gone xs ∙ ap (λ b. is_among child xs && not b) (eq_swap child gone ∙ same) ∙ none (is_among child xs)
  where
    none : (b : Bool) → (b && false) ≡ false
    none true = refl
    none false = refl

-- a child that was just started runs
pub begun_runs : (history : List SpawnEvent) (start : Start) (child missed : ℕ) → is_running child (history ++ Began start child missed ∷ []) ≡ true
begun_runs history start child missed =
    ap (is_among child) (running_push history (Began start child missed)) ∙ among_push child child _ ∙ or_right _ _ (or_left (nat_eq child child) false (eq-eqb child child refl))

-- an event that isn't a child's end keeps it
after_keeps : (children : List ℕ) (event : SpawnEvent) (child : ℕ) → ends child event ≡ false → is_among child children ≡ true → is_among child (running_after children event) ≡ true
after_keeps children (Began start other missed) child goes runs = among_push child other children ∙ or_left (is_among child children) _ runs
after_keeps children (Unbegun start missed) child goes runs = runs
after_keeps children (Polled other Runs) child goes runs = runs
after_keeps children (Polled other (Over status)) child goes runs = kept_other child other children goes runs
after_keeps children (Polled other Lost) child goes runs = kept_other child other children goes runs

pub still_runs : (history : List SpawnEvent) (event : SpawnEvent) (child : ℕ) → ends child event ≡ false → is_running child history ≡ true → is_running child (history ++ event ∷ []) ≡ true
still_runs history event child goes runs = ap (is_among child) (running_push history event) ∙ after_keeps (running_in history) event child goes runs

-- and its end takes it away
after_ends : (children : List ℕ) (event : SpawnEvent) (child : ℕ) → ends child event ≡ true → is_among child (running_after children event) ≡ false
after_ends children (Began start other missed) child gone = absurd (true≢false (sym gone))
after_ends children (Unbegun start missed) child gone = absurd (true≢false (sym gone))
after_ends children (Polled other Runs) child gone = absurd (true≢false (sym gone))
after_ends children (Polled other (Over status)) child gone = taken_out child other children gone
after_ends children (Polled other Lost) child gone = taken_out child other children gone

pub runs_no_more : (history : List SpawnEvent) (event : SpawnEvent) (child : ℕ) → ends child event ≡ true → is_running child (history ++ event ∷ []) ≡ false
runs_no_more history event child gone = ap (is_among child) (running_push history event) ∙ after_ends (running_in history) event child gone
