-- The lines of a history with one event more.
use Rattle.std.proofs.Common.{rules, ◌≡◌, ℕ, ◌+◌, Bool, true, false, cond, not, ◌&&◌, ◌||◌, List, [], ◌∷◌, ◌++◌, refl, sym, ◌∙◌, ap}
use Rattle.std.specs.Prelude.{nat_eq, count_by}
use Rattle.std.proofs.lemmas.Bool.{eq-eqb, or_right, or_left}
use Rattle.std.proofs.lemmas.List.Folds.{fold_along}
use Rattle.std.proofs.lemmas.List.Sums.{fold_push, sum_by_push}
use Rattle.link_edge.specs.declared.dial_event.DialEvent.{DialEvent}
use Rattle.link_edge.specs.declared.dial_event.DialEvent.TheVariants.{Dialled, Undialled, Read, Unread, Wrote, Unwritten, Closed}
use Rattle.link_edge.specs.declared.peer.Peer.{Peer}
use Rattle.link_edge.specs.Lines.{is_open, is_sound, open_after, open_in, sound_after, sound_in, spoils}
use Rattle.link_edge.specs.Sessions.{is_among, without}
use Rattle.link_edge.proofs.Sounding.{Within, among_push, among_without, within_both, within_less, within_push}

-- the open lines after one event more
pub open_push : (history : List DialEvent) (event : DialEvent) → open_in (history ++ event ∷ []) ≡ open_after (open_in history) event
open_push history event = fold_push open_after [] history event

-- the sound lines after one event more
pub sound_push : (history : List DialEvent) (event : DialEvent) → sound_in (history ++ event ∷ []) ≡ sound_after (sound_in history) event
sound_push history event = fold_push sound_after [] history event

-- a count of events after one event more
pub count_push : (p : DialEvent → Bool) (history : List DialEvent) (event : DialEvent) → count_by p (history ++ event ∷ []) ≡ count_by p history + cond (p event) 1 0
count_push p history event = sum_by_push (λ e. cond (p e) 1 0) history event

-- after one event more the sound lines are still among the open ones
within_event : (some all : List ℕ) (event : DialEvent) → Within some all → Within (sound_after some event) (open_after all event)
within_event some all (Dialled peer line missed) h = within_push line some all h
within_event some all (Undialled peer missed) h = h
within_event some all (Read line bytes) h = h
within_event some all (Unread line) h = within_less line some all h
within_event some all (Wrote line bytes) h = h
within_event some all (Unwritten line) h = within_less line some all h
within_event some all (Closed line) h = within_both line some all h

-- a sound line is open
pub sound_is_open : (history : List DialEvent) (line : ℕ) → is_sound line history ≡ true → is_open line history ≡ true
unfolding Within
sound_is_open history line sound = fold_along sound_after open_after Within within_event [] [] history (λ s t. t) line sound

-- a line that was just dialled is sound
pub dialled_is_sound : (history : List DialEvent) (peer : Peer) (line missed : ℕ) → is_sound line (history ++ Dialled peer line missed ∷ []) ≡ true
dialled_is_sound history peer line missed =
    ap (is_among line) (sound_push history (Dialled peer line missed)) ∙ among_push line line _ ∙ or_right _ _ (or_left (nat_eq line line) false (eq-eqb line line refl))

eq_swap : (a b : ℕ) → nat_eq a b ≡ nat_eq b a
eq_swap a b = search rules

-- what is left where another is taken out
kept_other : (line gone : ℕ) (xs : List ℕ) → nat_eq gone line ≡ false → is_among line xs ≡ true → is_among line (without gone xs) ≡ true
kept_other line gone xs other there = among_without line gone xs ∙ ap (λ b. b && not (nat_eq line gone)) there ∙ ap not (eq_swap line gone ∙ other)

after_keeps : (lines : List ℕ) (event : DialEvent) (line : ℕ) → spoils line event ≡ false → is_among line lines ≡ true → is_among line (sound_after lines event) ≡ true
after_keeps lines (Dialled peer other missed) line goes sound = among_push line other lines ∙ or_left (is_among line lines) _ sound
after_keeps lines (Undialled peer missed) line goes sound = sound
after_keeps lines (Read other bytes) line goes sound = sound
after_keeps lines (Unread other) line goes sound = kept_other line other lines goes sound
after_keeps lines (Wrote other bytes) line goes sound = sound
after_keeps lines (Unwritten other) line goes sound = kept_other line other lines goes sound
after_keeps lines (Closed other) line goes sound = kept_other line other lines goes sound

-- a sound line is still sound after an event that doesn't spoil it
pub still_sound : (history : List DialEvent) (event : DialEvent) (line : ℕ) → spoils line event ≡ false → is_sound line history ≡ true → is_sound line (history ++ event ∷ []) ≡ true
still_sound history event line goes sound = ap (is_among line) (sound_push history event) ∙ after_keeps (sound_in history) event line goes sound
