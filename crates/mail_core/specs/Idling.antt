-- The turns in which runners step (Sendmail Installation and Operation Guide, "Queue Groups":
-- Runners; the order is own).
use Rattle.std.specs.Prelude.{ℕ, List, [], ◌∷◌, ◌++◌, map, Option, Some, None, if◌then◌else◌}
use Rattle.std.specs.Option.{option_map}
use Rattle.spool_store.specs.Entries.{Stored}
use Rattle.queue_run.specs.declared.batch.Routed.{Routed}
use Rattle.queue_run.specs.declared.runner.RunStop.{RunStop}
use Rattle.queue_run.specs.declared.runner.RunStop.TheVariants as stop
use Rattle.queue_run.specs.Claims.{holder_for}
use Rattle.queue_run.specs.Deeds.{Deed, Claims}
use Rattle.queue_run.specs.Holders.{Attempt, Holder}
use Rattle.queue_run.specs.Steps.{By as Halts, Halt, Luck, Stepped, Unfit, stepped}
use Rattle.mail_core.specs.Effects.{Does}
use Rattle.mail_core.specs.Holding.{can_claim, lane_at, stored_at, without_id}
use Rattle.mail_core.specs.Plans.{Plan, Once}
use Rattle.mail_core.specs.Sites.{Site}
use Rattle.mail_core.specs.States.{By, Cut, Ending, FilesFault, Finish, Finished, IdsSpent, NoMemory, Seat, SpoolFault, State, Step, cut, ended, still}

-- what is left open at a turn in which nothing came: an entry is claimed, whose rows go there, and
-- its holder takes the first step; there is no memory for a claim; the first holder takes a step;
-- or nobody holds an entry, and none may be claimed
pub data Idling : Type 0 where
  Claiming : (id : ℕ) (rows : List Routed) (luck : Luck) → Idling
  Starving : Idling
  Carrying : (luck : Luck) → Idling
  Quiet : Idling

-- ---- a step of a holder

abbrev pub ending_by : RunStop → Ending
ending_by stop.SpoolFault = SpoolFault
ending_by stop.FilesFault = FilesFault
ending_by stop.IdsSpent = IdsSpent
ending_by stop.NoMemory = NoMemory

-- how a step that is the last one ends the run
abbrev pub finish_of : Halt → Finish
finish_of (Halts cause) = By (ending_by cause)
finish_of Unfit = Cut

abbrev pub seated : List ℕ → Option Holder → List Seat
seated lane None = []
seated lane (Some h) = record { lane = lane; holder = h } ∷ []

-- a holder took a step, and stands behind the others unless the entry was let go
abbrev pub came_to : State → List Seat → List ℕ → List Deed → Stepped → Step
came_to m others lane front x = record {
  state = record m {
    table = x.table;
    seats = others ++ seated lane x.holder;
    over = option_map finish_of x.over;
  };
  effects = map Does (front ++ x.deeds);
}

abbrev pub steps : Site → State → List Seat → List Deed → Seat → Luck → Step
steps site m others front seat luck =
    came_to m others seat.lane front
    (stepped site.config site.maps m.latest m.table seat.holder luck)

-- ---- nothing came

abbrev pub seat_for : Site → Stored → List Routed → Seat
seat_for site s rows =
    record { lane = (lane_at site s).group; holder = holder_for site.config s.id rows }

abbrev pub claimed : Site → State → Stored → List Routed → Luck → Step
claimed site m s rows luck =
    steps site (record m { list = without_id s.id m.list }) m.seats (Claims s.id rows ∷ [])
    (seat_for site s rows) luck

abbrev pub claims : Site → State → List Routed → Luck → Option Stored → Step
claims site m rows luck None = cut m
claims site m rows luck (Some s) =
    if can_claim site m s then claimed site m s rows luck else cut m

abbrev pub carries : Site → State → Luck → List Seat → Step
carries site m luck [] = cut m
carries site m luck (seat ∷ others) = steps site m others [] seat luck

abbrev pub quiet : State → List Seat → Step
quiet m [] = still m
quiet m (seat ∷ others) = cut m

abbrev pub idle : Site → State → Idling → Step
idle site m (Claiming id rows luck) = claims site m rows luck (stored_at id m.table)
idle site m Starving = ended m NoMemory
idle site m (Carrying luck) = carries site m luck m.seats
idle site m Quiet = quiet m m.seats

-- a run over the queue is over with the turn that leaves nothing of its list
abbrev pub over_by : Plan → List ℕ → List Seat → Option Finish → Option Finish
over_by (Once group) [] [] None = Some (By Finished)
over_by plan list seats over = over

abbrev pub ends_list : Site → Step → Step
ends_list site step = record step {
  state = record step.state {
    over = over_by site.plan step.state.list step.state.seats step.state.over;
  };
}

-- ---- a Stop

-- one who holds an entry, and the others
pub record Taken : Type 0 where
  pub seat : Seat
  pub others : List Seat

abbrev pub past : Seat → Option Taken → Option Taken
past seat None = None
past seat (Some t) = Some (record t { others = seat ∷ t.others })

abbrev pub running_by : Seat → List Seat → Option Attempt → Option Taken → Option Taken
running_by seat others (Some attempt) later = Some (record { seat = seat; others = others })
running_by seat others None later = past seat later

-- the first holder whose child still runs
abbrev pub first_running : List Seat → Option Taken
first_running [] = None
first_running (seat ∷ others) =
    running_by seat others seat.holder.running (first_running others)

-- it takes a step; where no child runs any more, the run is over
abbrev pub stopped_by : Site → State → Option Luck → Option Taken → Step
stopped_by site m None None = ended m Finished
stopped_by site m (Some luck) (Some t) = steps site m t.others [] t.seat luck
stopped_by site m luck taken = cut m

abbrev pub stopped : Site → State → Option Luck → Step
stopped site m luck = stopped_by site m luck (first_running m.seats)
