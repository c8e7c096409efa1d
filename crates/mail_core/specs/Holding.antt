-- Which entries a run may claim (Sendmail Installation and Operation Guide, "Queue Groups": Runners
-- and Interval; the switch -q with a time, and the option MinQueueAge; that a group which isn't
-- configured counts as mqueue, and that half an hour is the interval where none is said, are own).
use Rattle.std.specs.Prelude.{◌≡◌, ℕ, List, [], ◌∷◌, ◌++◌, map, max, Option, Some, unwrap_or, Bool, false, ◌&&◌, eqb, nat_eq, not, filter, codes, All}
use Rattle.std.specs.List.{find}
use Rattle.mail_base.specs.Catalogs.{value_at}
use Rattle.mail_base.specs.Configs.{main_group}
use Rattle.mail_base.specs.declared.mailer.Group.{Group}
use Rattle.spool_store.specs.Entries.{Stored, Table}
use Rattle.spool_store.specs.Stores.{entered}
use Rattle.queue_table.specs.Claims.{IsLeastDue, is_free, lane_of, may_claim}
use Rattle.queue_table.specs.declared.waiting.Holder.{Holder as Held}
use Rattle.queue_table.specs.declared.waiting.Lane.{Lane}
use Rattle.queue_table.specs.declared.waiting.Waiting.{Waiting}
use Rattle.queue_run.specs.Batches.{is_among}
use Rattle.mail_core.specs.Plans.{Plan, Serve, Once}
use Rattle.mail_core.specs.Sites.{Site}
use Rattle.mail_core.specs.States.{Seat, State}

-- ---- lanes

-- the interval between two tries where none is said: 30 minutes
abbrev pub usual_interval : ℕ
usual_interval = 1_800

-- the least seconds between two tries of an entry, where the least age and the interval of its
-- group are those
abbrev pub wait_by : Plan → (age : ℕ) → (interval : Option ℕ) → ℕ
wait_by (Serve wait) age interval = max age (unwrap_or interval (unwrap_or wait usual_interval))
wait_by (Once group) age interval = age

-- the lane of a group
abbrev pub lane_for : Site → List ℕ → Group → Lane
lane_for site name group = record {
  group = name;
  wait = wait_by site.plan site.config.options.min_queue_age group.interval;
  runners = group.runners;
}

abbrev pub named_lane : Site → List ℕ × Group → List ℕ × Lane
named_lane site pair = (pair.0, lane_for site pair.0 pair.1)

-- that of mqueue, in which entries of other groups count too
abbrev pub main_lane : Site → Lane
main_lane site =
    lane_for site (codes "mqueue")
    (unwrap_or (value_at (codes "mqueue") site.config.groups) main_group)

abbrev pub held_as : Seat → Held
held_as seat = record { id = seat.holder.id; lane = seat.lane }

-- the lanes with those who hold entries
abbrev pub waiting_of : Site → List Seat → Waiting
waiting_of site seats = record {
  lanes = map (named_lane site) site.config.groups;
  other = main_lane site;
  holders = map held_as seats;
  quiet = 0;
}

-- the lane of an entry
abbrev pub lane_at : Site → Stored → Lane
lane_at site s = lane_of (waiting_of site []) s.control.group

-- ---- claims

-- the entry of an id
abbrev pub stored_at : ℕ → Table → Option Stored
stored_at id table = find (λ s. eqb s.id id) table.entries

-- an entry may be claimed where nobody holds it and its lane has room, and where it is due; in a
-- run over the queue, where it is on what is left of the list
abbrev pub can_claim_by : Site → State → Plan → Stored → Bool
can_claim_by site m (Serve wait) s = may_claim (waiting_of site m.seats) m.latest (entered s)
can_claim_by site m (Once group) s =
    is_free (waiting_of site m.seats) (entered s) && is_among m.list s.id

abbrev pub can_claim : Site → State → Stored → Bool
can_claim site m s = can_claim_by site m site.plan s

-- no entry may be claimed
abbrev pub IsNoneClaimable : Site → State → Type 0
IsNoneClaimable site m = All (λ s. can_claim site m s ≡ false) m.table.entries

-- the entry of an id may not be claimed, or isn't there
abbrev pub IsPassed : Site → State → ℕ → Type 0
IsPassed site m id = All (λ s. s.id ≡ id → can_claim site m s ≡ false) m.table.entries

-- it is the first of the list that may be claimed
pub record IsFirstListed (site : Site) (m : State) (id : ℕ) : Type 0 where
  pub front : List ℕ
  pub later : List ℕ
  pub list : m.list ≡ front ++ id ∷ later
  pub passed : All (IsPassed site m) front

-- it is the next one to be claimed: the least of those that are due, or the first of the list
abbrev pub IsFirst : Site → State → Plan → ℕ → Type 0
IsFirst site m (Serve wait) id =
    IsLeastDue (waiting_of site m.seats) m.latest (map entered m.table.entries) (Some id)
IsFirst site m (Once group) id = IsFirstListed site m id

-- an id is taken off a list
abbrev pub without_id : ℕ → List ℕ → List ℕ
without_id id ids = filter (λ other. not (nat_eq other id)) ids
