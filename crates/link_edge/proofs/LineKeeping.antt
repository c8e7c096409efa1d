-- What a dialer in memory keeps beside its history, as that grows.
use Rattle.std.proofs.Common.{◌≡◌, ℕ, ◌+◌, ◌<◌, ◌≤◌, true, false, cond, List, [], ◌∷◌, ◌++◌, length, refl, sym, ◌∙◌, ap, arith}
use Rattle.std.specs.Prelude.{count_by}
use mathlib.Core.Bool.{true≢false}
use Rattle.std.proofs.lemmas.Bool.{ne_eqb}
use Rattle.std.proofs.lemmas.List.{length-append}
use Rattle.link_edge.specs.declared.dial_event.DialEvent.{DialEvent}
use Rattle.link_edge.specs.declared.dial_event.DialEvent.TheVariants.{Dialled, Undialled, Read, Unread, Wrote, Unwritten, Closed}
use Rattle.link_edge.specs.declared.peer.Peer.{Peer}
use Rattle.link_edge.specs.Lines.{open_after, sound_after, open_in, sound_in, gives}
use Rattle.link_edge.specs.Pieces.{is_dialled}
use Rattle.link_edge.specs.inner.KeptLines.{IsKept, is_quiet}
use Rattle.link_edge.proofs.LineSounding.{open_push, sound_push, count_push}

-- the same history and lines, with room that hasn't shrunk
pub kept_same : (told now : List DialEvent) (live live_now sound sound_now : List ℕ) (given before after : ℕ) → IsKept told live sound given before → now ≡ told → live_now ≡ live → sound_now ≡ sound → before ≤ after → IsKept now live_now sound_now given after
kept_same told now live live_now sound sound_now given before after kept same same_live same_sound larger = record {
  live_is = same_live ∙ kept.live_is ∙ ap open_in (sym same);
  sound_is = same_sound ∙ kept.sound_is ∙ ap sound_in (sym same);
  given_is = kept.given_is ∙ ap (count_by is_dialled) (sym same);
  unused = λ n above. ap (count_by (gives n)) same ∙ kept.unused n above;
  room = omega (arith, kept.room, ap length same, ap length same_live, ap length same_sound);
}

-- one event more, with what follows from it
pub kept_more : (told now : List DialEvent) (event : DialEvent) (live live_now sound sound_now : List ℕ) (given given_now before after : ℕ) → IsKept told live sound given before → now ≡ told ++ event ∷ [] → live_now ≡ open_after live event → sound_now ≡ sound_after sound event → given_now ≡ given + cond (is_dialled event) 1 0 → ((n : ℕ) → given_now < n → gives n event ≡ false) → length now + length live_now + length sound_now ≤ after → IsKept now live_now sound_now given_now after
kept_more told now event live live_now sound sound_now given given_now before after kept is live_is sound_is given_is unused room = record {
  live_is = live_is ∙ ap (λ xs. open_after xs event) kept.live_is ∙ sym (ap open_in is ∙ open_push told event);
  sound_is = sound_is ∙ ap (λ xs. sound_after xs event) kept.sound_is ∙ sym (ap sound_in is ∙ sound_push told event);
  given_is = given_is ∙ ap (λ n. n + cond (is_dialled event) 1 0) kept.given_is ∙ sym (ap (count_by is_dialled) is ∙ count_push is_dialled told event);
  unused = λ n above.
      let below : given < n = omega (arith, given_is) in
      ap (count_by (gives n)) is ∙ count_push (gives n) told event ∙ ap (λ q. q + cond (gives n event) 1 0) (kept.unused n below) ∙ ap (λ b. 0 + cond b 1 0) (unused n above);
  room = room;
}

-- what an event that leaves each line as it is changes: nothing
pub record LeavesAll (event : DialEvent) : Type 0 where
  pub live : (xs : List ℕ) → open_after xs event ≡ xs
  pub sound : (xs : List ℕ) → sound_after xs event ≡ xs
  pub dialled : is_dialled event ≡ false
  pub unused : (n : ℕ) → gives n event ≡ false

pub leaves_all : (event : DialEvent) → is_quiet event ≡ true → LeavesAll event
leaves_all (Dialled peer line missed) h = absurd (true≢false (sym h))
leaves_all (Undialled peer missed) h = record { live = λ xs. refl; sound = λ xs. refl; dialled = refl; unused = λ n. refl }
leaves_all (Read line bytes) h = record { live = λ xs. refl; sound = λ xs. refl; dialled = refl; unused = λ n. refl }
leaves_all (Unread line) h = absurd (true≢false (sym h))
leaves_all (Wrote line bytes) h = record { live = λ xs. refl; sound = λ xs. refl; dialled = refl; unused = λ n. refl }
leaves_all (Unwritten line) h = absurd (true≢false (sym h))
leaves_all (Closed line) h = absurd (true≢false (sym h))

-- an event that leaves each line as it is
pub kept_quiet : (told now : List DialEvent) (event : DialEvent) (live sound : List ℕ) (given before after : ℕ) → IsKept told live sound given before → is_quiet event ≡ true → now ≡ told ++ event ∷ [] → length now + length live + length sound ≤ after → IsKept now live sound given after
kept_quiet told now event live sound given before after kept quiet is room =
    let all = leaves_all event quiet in
    kept_more told now event live live sound sound given given before after kept is (sym (all.live live)) (sym (all.sound sound)) (sym (ap (λ b. given + cond b 1 0) all.dialled ∙ omega arith)) (λ n above. all.unused n) room

-- a line more
pub kept_dialled : (told now : List DialEvent) (peer : Peer) (line missed : ℕ) (live live_now sound sound_now : List ℕ) (given before after : ℕ) → IsKept told live sound given before → line ≡ given + 1 → now ≡ told ++ Dialled peer line missed ∷ [] → live_now ≡ live ++ line ∷ [] → sound_now ≡ sound ++ line ∷ [] → length now + length live + length sound + 2 ≤ after → IsKept now live_now sound_now line after
kept_dialled told now peer line missed live live_now sound sound_now given before after kept is_number is live_is sound_is room =
    kept_more told now (Dialled peer line missed) live live_now sound sound_now given line before after kept is live_is sound_is is_number (λ n above. ne_eqb line n (λ e. omega arith)) (omega (arith, ap length live_is, ap length sound_is, length-append live (line ∷ []), length-append sound (line ∷ [])))
