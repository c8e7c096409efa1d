-- What a floor in memory keeps beside its history, as that grows.
use Rattle.std.proofs.Common.{◌≡◌, ℕ, ◌+◌, ◌<◌, ◌≤◌, true, false, cond, List, [], ◌∷◌, ◌++◌, length, refl, sym, ◌∙◌, ap, arith}
use Rattle.std.specs.Prelude.{count_by}
use mathlib.Core.Bool.{true≢false}
use Rattle.std.proofs.lemmas.Bool.{ne_eqb}
use Rattle.std.proofs.lemmas.List.{length-append}
use Rattle.link_edge.specs.declared.event.Event.TheVariants.{Opens, Brings, Closes, Rests, Stops}
use Rattle.link_edge.specs.declared.event.FloorEvent.{FloorEvent}
use Rattle.link_edge.specs.declared.event.FloorEvent.TheVariants.{Took, Sent, Unsent, HungUp}
use Rattle.link_edge.specs.Sessions.{open_after, sound_after, open_in, sound_in, is_among, opens}
use Rattle.link_edge.specs.Tellings.{is_opening}
use Rattle.link_edge.specs.inner.Kept.{IsKept, is_quiet}
use Rattle.link_edge.proofs.Sessioning.{open_push, sound_push, count_push}

-- the same history and sessions, with room that hasn't shrunk
pub kept_same : (told now : List FloorEvent) (live live_now sound sound_now : List ℕ) (opened before after : ℕ) → IsKept told live sound opened before → now ≡ told → live_now ≡ live → sound_now ≡ sound → before ≤ after → IsKept now live_now sound_now opened after
kept_same told now live live_now sound sound_now opened before after kept same same_live same_sound larger = record {
  live_is = same_live ∙ kept.live_is ∙ ap open_in (sym same);
  sound_is = same_sound ∙ kept.sound_is ∙ ap sound_in (sym same);
  opened_is = kept.opened_is ∙ ap (count_by is_opening) (sym same);
  unused = λ n above. ap (count_by (opens n)) same ∙ kept.unused n above;
  room = omega (arith, kept.room, ap length same, ap length same_live, ap length same_sound);
}

-- a session of the history is among those that are kept
pub among_kept : (kept are : List ℕ) (session : ℕ) → kept ≡ are → is_among session are ≡ true → is_among session kept ≡ true
among_kept kept are session same there = ap (is_among session) same ∙ there

-- one event more, with what follows from it
pub kept_more : (told now : List FloorEvent) (event : FloorEvent) (live live_now sound sound_now : List ℕ) (opened opened_now before after : ℕ) → IsKept told live sound opened before → now ≡ told ++ event ∷ [] → live_now ≡ open_after live event → sound_now ≡ sound_after sound event → opened_now ≡ opened + cond (is_opening event) 1 0 → ((n : ℕ) → opened_now < n → opens n event ≡ false) → length now + length live_now + length sound_now ≤ after → IsKept now live_now sound_now opened_now after
kept_more told now event live live_now sound sound_now opened opened_now before after kept is live_is sound_is opened_is unused room = record {
  live_is = live_is ∙ ap (λ xs. open_after xs event) kept.live_is ∙ sym (ap open_in is ∙ open_push told event);
  sound_is = sound_is ∙ ap (λ xs. sound_after xs event) kept.sound_is ∙ sym (ap sound_in is ∙ sound_push told event);
  opened_is = opened_is ∙ ap (λ n. n + cond (is_opening event) 1 0) kept.opened_is ∙ sym (ap (count_by is_opening) is ∙ count_push is_opening told event);
  unused = λ n above.
      let below : opened < n = omega (arith, opened_is) in
      ap (count_by (opens n)) is ∙ count_push (opens n) told event ∙ ap (λ q. q + cond (opens n event) 1 0) (kept.unused n below) ∙ ap (λ b. 0 + cond b 1 0) (unused n above);
  room = room;
}

-- what an event that leaves each session as it is changes: nothing
pub record LeavesAll (event : FloorEvent) : Type 0 where
  pub live : (xs : List ℕ) → open_after xs event ≡ xs
  pub sound : (xs : List ℕ) → sound_after xs event ≡ xs
  pub opening : is_opening event ≡ false
  pub unused : (n : ℕ) → opens n event ≡ false

pub leaves_all : (event : FloorEvent) → is_quiet event ≡ true → LeavesAll event
leaves_all (Took (Opens s peer)) h = absurd (true≢false (sym h))
leaves_all (Took (Brings s bytes)) h = record { live = λ xs. refl; sound = λ xs. refl; opening = refl; unused = λ n. refl }
leaves_all (Took (Closes s)) h = absurd (true≢false (sym h))
leaves_all (Took Rests) h = record { live = λ xs. refl; sound = λ xs. refl; opening = refl; unused = λ n. refl }
leaves_all (Took Stops) h = record { live = λ xs. refl; sound = λ xs. refl; opening = refl; unused = λ n. refl }
leaves_all (Sent s bytes) h = record { live = λ xs. refl; sound = λ xs. refl; opening = refl; unused = λ n. refl }
leaves_all (Unsent s) h = absurd (true≢false (sym h))
leaves_all (HungUp s) h = absurd (true≢false (sym h))

-- an event that leaves each session as it is
pub kept_quiet : (told now : List FloorEvent) (event : FloorEvent) (live sound : List ℕ) (opened before after : ℕ) → IsKept told live sound opened before → is_quiet event ≡ true → now ≡ told ++ event ∷ [] → length now + length live + length sound ≤ after → IsKept now live sound opened after
kept_quiet told now event live sound opened before after kept quiet is room =
    let all = leaves_all event quiet in
    kept_more told now event live live sound sound opened opened before after kept is (sym (all.live live)) (sym (all.sound sound)) (sym (ap (λ b. opened + cond b 1 0) all.opening ∙ omega arith)) (λ n above. all.unused n) room

-- a session more
pub kept_open : (told now : List FloorEvent) (number : ℕ) (peer : List ℕ) (live live_now sound sound_now : List ℕ) (opened before after : ℕ) → IsKept told live sound opened before → number ≡ opened + 1 → now ≡ told ++ Took (Opens number peer) ∷ [] → live_now ≡ live ++ number ∷ [] → sound_now ≡ sound ++ number ∷ [] → length now + length live + length sound + 2 ≤ after → IsKept now live_now sound_now number after
kept_open told now number peer live live_now sound sound_now opened before after kept is_number is live_is sound_is room =
    kept_more told now (Took (Opens number peer)) live live_now sound sound_now opened number before after kept is live_is sound_is is_number (λ n above. ne_eqb number n (λ e. omega arith)) (omega (arith, ap length live_is, ap length sound_is, length-append live (number ∷ []), length-append sound (number ∷ [])))
