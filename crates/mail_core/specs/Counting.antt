-- What a waiting list of the queue keeps of those who hold entries (Sendmail Installation and
-- Operation Guide, "Queue Groups": Runners). Its order is that of claims, and the holders' is that
-- in which they step.
use Rattle.std.specs.Prelude.{◌≡◌, ℕ, List, map, bytes_eq, count_by}
use Rattle.queue_table.specs.Claims.{is_held}
use Rattle.queue_table.specs.declared.waiting.Waiting.{Waiting}
use Rattle.mail_core.specs.Holding.{held_as, main_lane, waiting_of}
use Rattle.mail_core.specs.Sites.{Site}
use Rattle.mail_core.specs.States.{Seat}

-- it has the lanes of a site, the same entries are held, and as many of each lane
pub record IsCounted (site : Site) (w : Waiting) (seats : List Seat) : Type 0 where
  pub lanes : w.lanes ≡ (waiting_of site seats).lanes
  pub other : w.other ≡ main_lane site
  pub held : (id : ℕ) → is_held w.holders id ≡ is_held (map held_as seats) id
  pub count : (lane : List ℕ) → count_by (λ h. bytes_eq h.lane lane) w.holders
      ≡ count_by (λ h. bytes_eq h.lane lane) (map held_as seats)
