-- What is left open at the turns in which runners step is what the configuration says (Sendmail
-- Installation and Operation Guide, "Queue Groups", M: Define Mailer, and the rules of R and S
-- lines).
use Rattle.std.specs.Prelude.{◌≡◌, ℕ, List, [], ◌∷◌, Option, Some, None}
use Rattle.spool_store.specs.Entries.{Stored}
use Rattle.queue_table.specs.Commands.{control_at}
use Rattle.queue_run.specs.declared.batch.Routed.{Routed}
use Rattle.queue_run.specs.Claims.{AreRouted}
use Rattle.queue_run.specs.Holders.{Holder}
use Rattle.queue_run.specs.Meant.{Ground, IsMeant, ground_by}
use Rattle.queue_run.specs.Steps.{Luck}
use Rattle.queue_run.specs.Working.{IsRead, kind_in}
use Rattle.mail_core.specs.Holding.{IsFirst, IsNoneClaimable, stored_at}
use Rattle.mail_core.specs.Idling.{Carrying, Claiming, Idling, Quiet, Starving, Taken, first_running, seat_for}
use Rattle.mail_core.specs.Judges.{JudgeSeen, drawer_of}
use Rattle.mail_core.specs.Sites.{Site}
use Rattle.mail_core.specs.States.{Seat, State}

-- what the steps of an event stand on
abbrev pub ground_at : JudgeSeen → Site → State → Ground
ground_at j site m = ground_by site.config site.maps m.latest (drawer_of j)

-- the data of a holder's step
abbrev pub IsLuckMeant : JudgeSeen → Site → State → Holder → Luck → Type 0
IsLuckMeant j site m h luck =
    IsMeant (ground_at j site m) h.id (control_at h.id m.table.entries)
    (kind_in (ground_at j site m) m.table h) luck

-- the next entry is claimed, its rows go where the rules lead them, and so its first step
pub record IsClaimMeant (j : JudgeSeen) (site : Site) (m : State) (id : ℕ) (rows : List Routed)
    (luck : Luck) : Type 0 where
  pub stored : Stored
  pub is : stored_at id m.table ≡ Some stored
  pub first : IsFirst site m site.plan id
  pub routed : AreRouted site.config site.maps id stored.control rows
  pub step : IsLuckMeant j site m (seat_for site stored rows).holder luck

-- no entry may be claimed, and the first holder's step
abbrev pub IsCarryMeant : JudgeSeen → Site → State → Luck → List Seat → Type 0
IsCarryMeant j site m luck [] = Unit {0}
IsCarryMeant j site m luck (seat ∷ others) =
    IsNoneClaimable site m × IsLuckMeant j site m seat.holder luck

abbrev pub IsRestMeant : JudgeSeen → Site → State → Idling → Type 0
IsRestMeant j site m (Claiming id rows luck) = IsClaimMeant j site m id rows luck
IsRestMeant j site m Starving = Unit {0}
IsRestMeant j site m (Carrying luck) = IsCarryMeant j site m luck m.seats
IsRestMeant j site m Quiet = IsNoneClaimable site m

-- the step of the first holder whose child runs
abbrev pub IsTakenMeant : JudgeSeen → Site → State → Luck → Option Taken → Type 0
IsTakenMeant j site m luck None = Unit {0}
IsTakenMeant j site m luck (Some t) = IsLuckMeant j site m t.seat.holder luck

abbrev pub IsStopMeant : JudgeSeen → Site → State → Option Luck → Type 0
IsStopMeant j site m None = Unit {0}
IsStopMeant j site m (Some luck) = IsTakenMeant j site m luck (first_running m.seats)

-- ---- what was read

-- the body that a step read is that of the entry in the table
abbrev pub IsCarryRead : State → Luck → List Seat → Type 0
IsCarryRead m luck [] = Unit {0}
IsCarryRead m luck (seat ∷ others) = IsRead m.table seat.holder.id luck

abbrev pub IsRestRead : State → Idling → Type 0
IsRestRead m (Claiming id rows luck) = IsRead m.table id luck
IsRestRead m Starving = Unit {0}
IsRestRead m (Carrying luck) = IsCarryRead m luck m.seats
IsRestRead m Quiet = Unit {0}

abbrev pub IsTakenRead : State → Luck → Option Taken → Type 0
IsTakenRead m luck None = Unit {0}
IsTakenRead m luck (Some t) = IsRead m.table t.seat.holder.id luck

abbrev pub IsStopRead : State → Option Luck → Type 0
IsStopRead m None = Unit {0}
IsStopRead m (Some luck) = IsTakenRead m luck (first_running m.seats)
