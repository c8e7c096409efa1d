-- None of those so far has room.
use Rattle.std.proofs.Common.{◌≡◌, ◌<◌, ℕ, List, false, get_or}
use Rattle.queue_table.specs.Claims.{has_room}
use Rattle.queue_table.specs.declared.waiting.Lane.{Lane}
use Rattle.queue_table.proofs.waiting.Waiting.is_full.Given as goal

abbrev pub invariant-loop-place : goal.invariant-loop-place
invariant-loop-place l = (k : ℕ) (d : List ℕ × Lane) → k < l.place → has_room l.self.holders (get_or l.self.lanes k d).1 ≡ false
