-- Turns of runners, computed.
use Rattle.std.proofs.Common.{◌≡◌, ℕ, List, [], ◌∷◌, true, false, Some, None, refl}
use Rattle.std.specs.Prelude.{codes}
use Rattle.mail_base.specs.Configs.{initial}
use Rattle.mail_base.specs.declared.control.Control.{Control}
use Rattle.mail_base.specs.declared.control.State.{State as RowState}
use Rattle.mail_base.specs.declared.control.State.TheVariants.{Queued, Sent}
use Rattle.mail_base.specs.declared.route.Resolved.TheVariants.{Refuses}
use Rattle.mail_base.specs.declared.route.RouteError.{RouteError}
use Rattle.link_edge.specs.declared.event.Event.TheVariants.{Rests, Stops}
use Rattle.spawn_edge.specs.declared.event.Poll.TheVariants as polls
use Rattle.spool_store.specs.Entries.{Stored, Table}
use Rattle.queue_table.specs.Directories.{terms_of}
use Rattle.queue_table.specs.Commands.Command.{Record}
use Rattle.queue_run.specs.declared.batch.Routed.{Routed}
use Rattle.queue_run.specs.Deeds.{Asks, Claims, Files, Frees, Polls}
use Rattle.queue_run.specs.Results.{refused_by}
use Rattle.queue_run.specs.Steps.{Closes, Records, StillRuns}
use Rattle.mail_core.specs.Beginning.{Start, beginning, run_over, served}
use Rattle.mail_core.specs.Effects.{Takes, Ticks, Does}
use Rattle.mail_core.specs.Idling.{Carrying, Claiming, Quiet}
use Rattle.mail_made.specs.Moments.{last_moment}
use Rattle.mail_core.specs.Machine.{Turn, turned}
use Rattle.mail_core.specs.Plans.{OfFloor, OfRun, Once, Plan, Serve}
use Rattle.mail_core.specs.Sites.{Site}
use Rattle.mail_core.specs.States.{By, Cut, Finished, Seat}

abbrev pub site : Plan → Site
site plan = record {
  host = codes "mx.example";
  dirs = [];
  config = initial;
  maps = record { maps = []; hosts = [] };
  plan = plan;
}

-- an entry of one row, which was never tried
abbrev pub entry : Control → RowState → ℕ → Stored
entry control state id = record {
  id = id;
  dir = codes "/q";
  control = record control {
    group = codes "mqueue";
    tries = 0;
    rows = record { address = codes "ann@mx.example"; primary = true; state = state } ∷ [];
  };
  body = [];
}

abbrev pub table : Control → RowState → Table
table control state = record { entries = entry control state 7 ∷ []; next = 8 }

abbrev pub rests : ℕ → Rattle.mail_core.specs.Idling.Idling → Turn
rests reading choice = record { event = Rests; origin = OfFloor reading; choices = choice }

abbrev pub refused : RouteError → List Routed
refused error = record { place = 0; resolved = Refuses error } ∷ []

-- an entry that is due is claimed, and its holder takes the first step
claim_steps : (control : Control) (error : RouteError)
    → (turned (site (Serve None)) (beginning (served (table control (Queued None)))) (rests 100 (Claiming 7 (refused error) (Records false)))).effects
    ≡ Takes Rests ∷ Ticks 100 ∷ Does (Claims 7 (refused error)) ∷ Does (Asks (Record (terms_of initial) 7 (0 ∷ []) (refused_by error ∷ []) 100)) ∷ []
unfolding last_moment
claim_steps control error = refl

-- it isn't claimed where another entry of its lane is held, which may have one holder
claim_full : (control : Control) (error : RouteError)
    → (turned (site (Serve None)) (record (beginning (served (table control (Queued None)))) { seats = record { lane = codes "mqueue"; holder = record { id = 3; rest = []; running = None } } ∷ [] }) (rests 100 (Claiming 7 (refused error) (Records false)))).state.over
    ≡ Some Cut
unfolding last_moment
claim_full control error = refl

-- a run over a queue of one entry, which is finished, ends with the turn that lets it go
abbrev pub listed : Control → Start
listed control = record { table = table control Sent; list = 7 ∷ []; first = Some 90 }

list_ends : (control : Control)
    → ((run_over (site (Once None)) (listed control) (record { event = Rests; origin = OfRun 100; choices = Claiming 7 [] (Closes false) } ∷ [])).effects
    ≡ Ticks 90 ∷ Ticks 100 ∷ Does (Claims 7 []) ∷ Does (Files 7) ∷ Does (Frees 7) ∷ [])
    × ((run_over (site (Once None)) (listed control) (record { event = Rests; origin = OfRun 100; choices = Claiming 7 [] (Closes false) } ∷ [])).state.over ≡ Some (By Finished))
unfolding last_moment
list_ends control = (refl, refl)

abbrev waits : ℕ → Seat
waits id = record { lane = codes "mqueue"; holder = record { id = id; rest = []; running = None } }

abbrev runs : ℕ → Seat
runs id = record { lane = codes "mqueue"; holder = record { id = id; rest = []; running = Some (record { child = 5; places = 0 ∷ [] }) } }

-- at a Stop the first holder whose child runs takes a step, and goes behind the others; a run makes
-- none itself while none was told
stop_steps : (control : Control)
    → ((turned (site (Serve None)) (record (beginning (served (table control (Queued None)))) { seats = waits 1 ∷ runs 7 ∷ waits 3 ∷ [] }) (record { event = Stops; origin = OfFloor 100; choices = Some StillRuns })).effects
    ≡ Takes Stops ∷ Ticks 100 ∷ Does (Polls 7 5 polls.Runs) ∷ [])
    × ((turned (site (Serve None)) (record (beginning (served (table control (Queued None)))) { seats = waits 1 ∷ runs 7 ∷ waits 3 ∷ [] }) (record { event = Stops; origin = OfFloor 100; choices = Some StillRuns })).state.seats
    ≡ waits 1 ∷ waits 3 ∷ runs 7 ∷ [])
    × ((turned (site (Serve None)) (record (beginning (served (table control (Queued None)))) { seats = waits 1 ∷ waits 3 ∷ [] }) (record { event = Stops; origin = OfRun 100; choices = None })).state.over
    ≡ Some Cut)
unfolding last_moment
stop_steps control = (refl, refl, refl)

-- only behind one that the floor told does the run make them itself
stop_ends : (control : Control)
    → (turned (site (Serve None)) (record (beginning (served (table control (Queued None)))) { seats = waits 1 ∷ waits 3 ∷ []; stopping = true }) (record { event = Stops; origin = OfRun 100; choices = None })).state.over ≡ Some (By Finished)
stop_ends control = refl

-- and then the floor isn't asked any more, neither for a Rest nor for a Stop
stop_awaits : (control : Control)
    → ((turned (site (Serve None)) (record (beginning (served (table control (Queued None)))) { stopping = true }) (rests 100 Quiet)).state.over ≡ Some Cut)
    × ((turned (site (Serve None)) (record (beginning (served (table control (Queued None)))) { stopping = true }) (record { event = Stops; origin = OfFloor 100; choices = None })).state.over ≡ Some Cut)
stop_awaits control = (refl, refl)

-- the examples above, for whoever asks for them
pub examples : (control : Control) → (turned (site (Serve None)) (record (beginning (served (table control (Queued None)))) { stopping = true; seats = waits 1 ∷ waits 3 ∷ [] }) (record { event = Stops; origin = OfRun 100; choices = None })).state.over ≡ Some (By Finished)
examples control = stop_ends control
