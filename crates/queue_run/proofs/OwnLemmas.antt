-- The child of a runner behind a step is no other runner's.
use Rattle.std.proofs.Common.{◌≡◌, ◌≢◌, ℕ, ◌+◌, List, [], ◌∷◌, Bool, true, false, cond, ◌||◌, Option, Some, None, refl, sym, ◌∙◌, ap, subst, arith, true≢false}
use Rattle.std.specs.Prelude.{IfSome, count_by, nat_eq, fold, not}
use Rattle.std.proofs.lemmas.List.Folds.{list_any-append}
use Rattle.std.proofs.lemmas.List.Sums.{sum_by-append}
use Rattle.spawn_edge.specs.Children.{begins, is_among, is_running, running_after, without}
use Rattle.spawn_edge.specs.Spawned.{Spawned}
use Rattle.spawn_edge.specs.declared.event.Poll.TheVariants.{Runs, Over, Lost}
use Rattle.spawn_edge.specs.declared.event.SpawnEvent.{SpawnEvent}
use Rattle.spawn_edge.specs.declared.event.SpawnEvent.TheVariants.{Began, Unbegun, Polled}
use Rattle.queue_run.specs.declared.runner.Runner.{Runner}
use Rattle.queue_run.specs.declared.runner.Running.{Running}
use Rattle.queue_run.specs.Working.{HasOwnChild}
use Rattle.queue_run.proofs.ReadyLemmas.{at_rest_running}

abbrev IsOwnOf : Runner → Runner → List SpawnEvent → Type 0
IsOwnOf before now history =
    (child : ℕ) → is_running child history ≡ true → IfSome before.running (λ (run : Running). run.child ≢ child)
    → IfSome now.running (λ (run : Running). run.child ≢ child)

own_by : (o : Option (List SpawnEvent)) (before now : Runner) → ((history : List SpawnEvent) → o ≡ Some history → IsOwnOf before now history) → IfSome o (IsOwnOf before now)
own_by None before now h = tt
own_by (Some history) before now h = h history refl

-- one whose child doesn't run any more has none
pub own_rest : (a : Spawned) (before now : Runner) → now.running ≡ None → HasOwnChild a before now
own_rest a before now rests = own_by a.told before now (λ history is child runs ne. at_rest_running now.running (λ (run : Running). run.child ≢ child) rests)

-- one that is as it was has the one that it had
pub own_same : (a : Spawned) (r : Runner) → HasOwnChild a r r
own_same a r = own_by a.told r r (λ history is child runs ne. ne)

-- ---- a number that wasn't given is that of no child that runs

among_fewer : (child gone : ℕ) (xs : List ℕ) → is_among child xs ≡ false → is_among child (without gone xs) ≡ false
among_fewer child gone [] e = refl
among_fewer child gone (x ∷ xs) e = by (nat_eq x gone) (nat_eq x child) refl e (among_fewer child gone xs)
  where
    by : (g s : Bool) → nat_eq x child ≡ s → (s || is_among child xs) ≡ false → (is_among child xs ≡ false → is_among child (without gone xs) ≡ false)
        → is_among child (cond (not g) (x ∷ without gone xs) (without gone xs)) ≡ false
    by g true is e rest = absurd (true≢false e)
    by true false is e rest = rest e
    by false false is e rest = ap (λ b. b || is_among child (without gone xs)) is ∙ rest e

abbrev one_if : Bool → ℕ
one_if true = 1
one_if false = 0

one_is : (b : Bool) → cond b 1 0 ≡ one_if b
one_is true = refl
one_is false = refl

not_given : (b : Bool) → one_if b ≡ 0 → b ≡ false
not_given true e = absurd (omega (arith, e))
not_given false e = refl

counted : (p : SpawnEvent → Bool) (event : SpawnEvent) (history : List SpawnEvent) → count_by p (event ∷ history) ≡ one_if (p event) + count_by p history
counted p event history =
    let split = sum_by-append (λ e. cond (p e) 1 0) (event ∷ []) history in
    let one = one_is (p event) in
    omega (arith, split, one)

ungiven : (child : ℕ) (history : List SpawnEvent) (children : List ℕ) → count_by (begins child) history ≡ 0 → is_among child children ≡ false → is_among child (fold running_after children history) ≡ false
ungiven child [] children none out = out
ungiven child (event ∷ history) children none out =
    let e = counted (begins child) event history in
    ungiven child history (running_after children event) (omega (arith, e, none)) (by event (omega (arith, e, none)))
  where
    by : (event : SpawnEvent) → one_if (begins child event) ≡ 0 → is_among child (running_after children event) ≡ false
    by (Began start other missed) no_one = list_any-append (λ (x : ℕ). nat_eq x child) children (other ∷ []) ∙ ap (λ b. b || (nat_eq other child || false)) out ∙ ap (λ b. b || false) (not_given (nat_eq other child) no_one)
    by (Unbegun start missed) no_one = out
    by (Polled other Runs) no_one = out
    by (Polled other (Over status)) no_one = among_fewer child other children out
    by (Polled other Lost) no_one = among_fewer child other children out

some_told : (o : Option (List SpawnEvent)) (history : List SpawnEvent) (P : List SpawnEvent → Type 0) → o ≡ Some history → IfSome o P → P history
some_told o history P is h = subst (λ q. IfSome q P) is h

-- one that a start gave is no other's
pub own_begun : (a : Spawned) (before now : Runner) (run : Running) (child : ℕ) → now.running ≡ Some run → run.child ≡ child
    → IfSome a.told (λ history. count_by (begins child) history ≡ 0) → HasOwnChild a before now
own_begun a before now run child is number once = own_by a.told before now (λ history told other runs ne.
    subst (λ q. IfSome q (λ (r : Running). r.child ≢ other)) (sym is)
    (λ same. true≢false (sym runs ∙ ap (λ q. is_running q history) (sym same ∙ number) ∙ ungiven child history [] (some_told a.told history (λ h. count_by (begins child) h ≡ 0) told once) refl)))
