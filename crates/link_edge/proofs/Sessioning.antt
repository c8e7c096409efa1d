-- The sessions of a history with one event more.
use Rattle.std.proofs.Common.{◌≡◌, ◌+◌, Bool, cond, List, [], ◌∷◌, ◌++◌}
use Rattle.std.specs.Prelude.{count_by}
use Rattle.std.proofs.lemmas.List.Sums.{fold_push, sum_by_push}
use Rattle.link_edge.specs.declared.event.FloorEvent.{FloorEvent}
use Rattle.link_edge.specs.Sessions.{open_after, sound_after, open_in, sound_in}

-- the open sessions after one event more
pub open_push : (history : List FloorEvent) (event : FloorEvent) → open_in (history ++ event ∷ []) ≡ open_after (open_in history) event
open_push history event = fold_push open_after [] history event

-- the sound sessions after one event more
pub sound_push : (history : List FloorEvent) (event : FloorEvent) → sound_in (history ++ event ∷ []) ≡ sound_after (sound_in history) event
sound_push history event = fold_push sound_after [] history event

-- a count of events after one event more
pub count_push : (p : FloorEvent → Bool) (history : List FloorEvent) (event : FloorEvent) → count_by p (history ++ event ∷ []) ≡ count_by p history + cond (p event) 1 0
count_push p history event = sum_by_push (λ e. cond (p e) 1 0) history event
