-- What a spawner in memory keeps beside its history, as that grows.
use Rattle.std.proofs.Common.{◌≡◌, ℕ, ℤ, ◌+◌, ◌<◌, ◌≤◌, true, false, cond, List, [], ◌∷◌, ◌++◌, length, Option, Some, None, refl, sym, ◌∙◌, ap, arith}
use Rattle.std.specs.Prelude.{count_by}
use Rattle.std.proofs.lemmas.Bool.{ne_eqb}
use Rattle.std.proofs.lemmas.List.{length-append}
use Rattle.spawn_edge.specs.declared.event.Poll.TheVariants.{Runs}
use Rattle.spawn_edge.specs.declared.event.SpawnEvent.{SpawnEvent}
use Rattle.spawn_edge.specs.declared.event.SpawnEvent.TheVariants.{Began, Unbegun, Polled}
use Rattle.spawn_edge.specs.declared.event.Start.{Start}
use Rattle.spawn_edge.specs.Children.{begins, is_among, running_after, running_in, without}
use Rattle.spawn_edge.specs.Lives.{is_beginning}
use Rattle.spawn_edge.specs.inner.Kept.{IsKept, end_of}
use Rattle.spawn_edge.proofs.Running.{count_push, running_push}

-- the same history and children, with room that hasn't shrunk
pub kept_same : (told now : List SpawnEvent) (running running_now : List ℕ) (given before after : ℕ) → IsKept told running given before → now ≡ told → running_now ≡ running → before ≤ after → IsKept now running_now given after
kept_same told now running running_now given before after kept same same_running larger = record {
  running_is = same_running ∙ kept.running_is ∙ ap running_in (sym same);
  given_is = kept.given_is ∙ ap (count_by is_beginning) (sym same);
  unused = λ n above. ap (count_by (begins n)) same ∙ kept.unused n above;
  room = omega (arith, kept.room, ap length same, ap length same_running);
}

-- a child of the history is among those that are kept
pub among_kept : (kept are : List ℕ) (child : ℕ) → kept ≡ are → is_among child are ≡ true → is_among child kept ≡ true
among_kept kept are child same there = ap (is_among child) same ∙ there

-- one event more, with what follows from it
pub kept_more : (told now : List SpawnEvent) (event : SpawnEvent) (running running_now : List ℕ) (given given_now before after : ℕ) → IsKept told running given before → now ≡ told ++ event ∷ [] → running_now ≡ running_after running event → given_now ≡ given + cond (is_beginning event) 1 0 → ((n : ℕ) → given_now < n → begins n event ≡ false) → length now + length running_now ≤ after → IsKept now running_now given_now after
kept_more told now event running running_now given given_now before after kept is running_is given_is unused room = record {
  running_is = running_is ∙ ap (λ xs. running_after xs event) kept.running_is ∙ sym (ap running_in is ∙ running_push told event);
  given_is = given_is ∙ ap (λ n. n + cond (is_beginning event) 1 0) kept.given_is ∙ sym (ap (count_by is_beginning) is ∙ count_push is_beginning told event);
  unused = λ n above.
      let below : given < n = omega (arith, given_is) in
      ap (count_by (begins n)) is ∙ count_push (begins n) told event ∙ ap (λ q. q + cond (begins n event) 1 0) (kept.unused n below) ∙ ap (λ b. 0 + cond b 1 0) (unused n above);
  room = room;
}

-- a child more
pub kept_begun : (told now : List SpawnEvent) (start : Start) (child missed : ℕ) (running running_now : List ℕ) (given before after : ℕ) → IsKept told running given before → child ≡ given + 1 → now ≡ told ++ Began start child missed ∷ [] → running_now ≡ running ++ child ∷ [] → length now + length running + 1 ≤ after → IsKept now running_now child after
kept_begun told now start child missed running running_now given before after kept is_number is running_is room =
    kept_more told now (Began start child missed) running running_now given child before after kept is running_is is_number (λ n above. ne_eqb child n (λ e. omega arith)) (omega (arith, ap length running_is, length-append running (child ∷ [])))

-- a start that failed
pub kept_failed : (told now : List SpawnEvent) (start : Start) (missed : ℕ) (running : List ℕ) (given before after : ℕ) → IsKept told running given before → now ≡ told ++ Unbegun start missed ∷ [] → length now + length running ≤ after → IsKept now running given after
kept_failed told now start missed running given before after kept is room =
    kept_more told now (Unbegun start missed) running running given given before after kept is refl (omega arith) (λ n above. refl) room

-- a poll that found a child running
pub kept_passed : (told now : List SpawnEvent) (child : ℕ) (running : List ℕ) (given before after : ℕ) → IsKept told running given before → now ≡ told ++ Polled child Runs ∷ [] → length now + length running ≤ after → IsKept now running given after
kept_passed told now child running given before after kept is room =
    kept_more told now (Polled child Runs) running running given given before after kept is refl (omega arith) (λ n above. refl) room

-- the children behind an end
after_end : (running : List ℕ) (child : ℕ) (status : Option ℤ) → without child running ≡ running_after running (Polled child (end_of status))
after_end running child (Some status) = refl
after_end running child None = refl

-- a child less
pub kept_ended : (told now : List SpawnEvent) (child : ℕ) (status : Option ℤ) (running running_now : List ℕ) (given before after : ℕ) → IsKept told running given before → now ≡ told ++ Polled child (end_of status) ∷ [] → running_now ≡ without child running → length now + length running_now ≤ after → IsKept now running_now given after
kept_ended told now child status running running_now given before after kept is running_is room =
    kept_more told now (Polled child (end_of status)) running running_now given given before after kept is (running_is ∙ after_end running child status) (omega arith) (λ n above. refl) room
