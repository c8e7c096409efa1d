-- What the machine does, in order, and what of it the devices tell (own).
use Rattle.std.specs.Prelude.{ℕ, List, [], ◌∷◌, Bool, true, false}
use Rattle.std.specs.List.{flat_map}
use Rattle.link_edge.specs.declared.dial_event.DialEvent.{DialEvent}
use Rattle.link_edge.specs.declared.event.Event.{Event}
use Rattle.link_edge.specs.declared.event.FloorEvent.{FloorEvent}
use Rattle.link_edge.specs.declared.event.FloorEvent.TheVariants.{Took, HungUp}
use Rattle.link_edge.specs.Sessions.{send_event}
use Rattle.spawn_edge.specs.declared.event.SpawnEvent.{SpawnEvent}
use Rattle.spool_store.specs.Entries.{Table}
use Rattle.queue_table.specs.Asked.{table_by}
use Rattle.queue_table.specs.Commands.{Command}
use Rattle.queue_run.specs.Deeds.{Deed, asked_in, born_in, dialled_in}

-- a turn of the floor was taken; the clock was read; a text was sent to a session, whole or not; a
-- session was hung up; a deed of the queue was done: a command was asked of the table, by a session
-- or a runner, or a runner did something else
pub data Effect : Type 0 where
  Takes : (event : Event) → Effect
  Ticks : (reading : ℕ) → Effect
  Sends : (session : ℕ) (text : List ℕ) (whole : Bool) → Effect
  HangsUp : (session : ℕ) → Effect
  Does : (deed : Deed) → Effect

-- what a floor tells of an effect
abbrev pub heard : Effect → List FloorEvent
heard (Takes event) = Took event ∷ []
heard (Ticks reading) = []
heard (Sends session text whole) = send_event session text whole ∷ []
heard (HangsUp session) = HungUp session ∷ []
heard (Does deed) = []

-- the readings that a clock tells of it
abbrev pub read : Effect → List ℕ
read (Takes event) = []
read (Ticks reading) = reading ∷ []
read (Sends session text whole) = []
read (HangsUp session) = []
read (Does deed) = []

-- the command that it asks
abbrev pub commanded : Effect → List Command
commanded (Takes event) = []
commanded (Ticks reading) = []
commanded (Sends session text whole) = []
commanded (HangsUp session) = []
commanded (Does deed) = asked_in deed

-- what a spawner tells of it
abbrev pub born : Effect → List SpawnEvent
born (Takes event) = []
born (Ticks reading) = []
born (Sends session text whole) = []
born (HangsUp session) = []
born (Does deed) = born_in deed

-- what a dialer tells of it
abbrev pub dialled : Effect → List DialEvent
dialled (Takes event) = []
dialled (Ticks reading) = []
dialled (Sends session text whole) = []
dialled (HangsUp session) = []
dialled (Does deed) = dialled_in deed

-- the event of the turn that it takes
abbrev pub taken_in : Effect → List Event
taken_in (Takes event) = event ∷ []
taken_in (Ticks reading) = []
taken_in (Sends session text whole) = []
taken_in (HangsUp session) = []
taken_in (Does deed) = []

abbrev pub events_of : List Effect → List Event
events_of effects = flat_map taken_in effects

abbrev pub heard_of : List Effect → List FloorEvent
heard_of effects = flat_map heard effects

abbrev pub readings_of : List Effect → List ℕ
readings_of effects = flat_map read effects

abbrev pub commands_of : List Effect → List Command
commands_of effects = flat_map commanded effects

abbrev pub born_of : List Effect → List SpawnEvent
born_of effects = flat_map born effects

abbrev pub dialled_of : List Effect → List DialEvent
dialled_of effects = flat_map dialled effects

-- the table after some effects
abbrev pub table_after : Table → List Effect → Table
table_after table effects = table_by commanded table effects

-- a text is sent to a session, which is hung up where that fails
abbrev pub speech : ℕ → List ℕ → Bool → List Effect
speech session text true = Sends session text true ∷ []
speech session text false = Sends session text false ∷ HangsUp session ∷ []
