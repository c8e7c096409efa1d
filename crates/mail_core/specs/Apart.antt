-- Who holds entries at once (Sendmail Installation and Operation Guide, "Queue Groups": Runners).
use Rattle.std.specs.Prelude.{ℕ, ◌≤◌, List, [], Bool, bytes_eq, eqb, count_by}
use Rattle.queue_table.specs.Claims.{lane_of}
use Rattle.queue_table.specs.declared.waiting.Lane.{Lane}
use Rattle.mail_core.specs.Holding.{waiting_of}
use Rattle.mail_core.specs.Sites.{Site}
use Rattle.mail_core.specs.States.{Seat}

-- the lane of a group's entries
abbrev pub lane_in : Site → List ℕ → Lane
lane_in site group = lane_of (waiting_of site []) group

abbrev pub holds : ℕ → Seat → Bool
holds id seat = eqb seat.holder.id id

abbrev pub is_in : Lane → Seat → Bool
is_in lane seat = bytes_eq seat.lane lane.group

-- no entry is held twice, and no more entries of a group are held than it has runners
pub record AreApart (site : Site) (seats : List Seat) : Type 0 where
  pub ids : (id : ℕ) → count_by (holds id) seats ≤ 1
  pub lanes : (group : List ℕ)
      → count_by (is_in (lane_in site group)) seats ≤ (lane_in site group).runners
