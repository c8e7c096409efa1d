-- What a runner does, in order, and what of it table and devices see (own).
use Rattle.std.specs.Prelude.{◌≡◌, ℕ, List, [], ◌∷◌, Some, Bool, refl}
use Rattle.std.specs.List.{flat_map}
use Rattle.mail_base.specs.declared.outcome.Result1.{Result1}
use Rattle.link_edge.specs.declared.dial_event.DialEvent.{DialEvent}
use Rattle.spawn_edge.specs.declared.event.Poll.{Poll}
use Rattle.spawn_edge.specs.declared.event.SpawnEvent.{SpawnEvent}
use Rattle.spawn_edge.specs.declared.event.SpawnEvent.TheVariants.{Began, Unbegun, Polled}
use Rattle.spawn_edge.specs.declared.event.Start.{Start}
use Rattle.queue_table.specs.Commands.{Command, changed_by}
use Rattle.queue_run.specs.declared.batch.Routed.{Routed}

-- what came of a start: a child, with how many starts were missed before it; a failure that is
-- told, with the same; or one that is missed itself
pub data Launch : Type 0 where
  Given : (child missed : ℕ) → Launch
  Failed : (missed : ℕ) → Launch
  Missed : Launch

-- a whole delivery to peers: how many dials were missed before it, what a dialer tells of it, how
-- many are missed then, whether one of its calls failed, and what came of each row
pub record Talk : Type 0 where
  pub missed : ℕ
  pub events : List DialEvent
  pub missed_after : ℕ
  pub fault : Bool
  pub results : List Result1

-- an entry is claimed, its rows routed so; it is let go; a command is asked; an entry's control
-- file gets the name of a finished one's; a program is started for the rows at some places; a child
-- is polled; the rows at some places are delivered to peers
pub data Deed : Type 0 where
  Claims : (id : ℕ) (rows : List Routed) → Deed
  Frees : (id : ℕ) → Deed
  Asks : (command : Command) → Deed
  Files : (id : ℕ) → Deed
  Starts : (id : ℕ) (places : List ℕ) (start : Start) (launch : Launch) → Deed
  Polls : (id : ℕ) (child : ℕ) (poll : Poll) → Deed
  Talks : (id : ℕ) (places : List ℕ) (talk : Talk) → Deed

-- the commands of a deed
abbrev pub asked_in : Deed → List Command
asked_in (Claims id rows) = []
asked_in (Frees id) = []
asked_in (Asks command) = command ∷ []
asked_in (Files id) = []
asked_in (Starts id places start launch) = []
asked_in (Polls id child poll) = []
asked_in (Talks id places talk) = []

abbrev pub begun_as : Start → Launch → List SpawnEvent
begun_as start (Given child missed) = Began start child missed ∷ []
begun_as start (Failed missed) = Unbegun start missed ∷ []
begun_as start Missed = []

-- what a spawner tells of it
abbrev pub born_in : Deed → List SpawnEvent
born_in (Claims id rows) = []
born_in (Frees id) = []
born_in (Asks command) = []
born_in (Files id) = []
born_in (Starts id places start launch) = begun_as start launch
born_in (Polls id child poll) = Polled child poll ∷ []
born_in (Talks id places talk) = []

-- what a dialer tells of it
abbrev pub dialled_in : Deed → List DialEvent
dialled_in (Claims id rows) = []
dialled_in (Frees id) = []
dialled_in (Asks command) = []
dialled_in (Files id) = []
dialled_in (Starts id places start launch) = []
dialled_in (Polls id child poll) = []
dialled_in (Talks id places talk) = talk.events

-- it is a deed of the entry of that id
abbrev pub IsOf : ℕ → Deed → Type 0
IsOf id (Claims other rows) = other ≡ id
IsOf id (Frees other) = other ≡ id
IsOf id (Asks command) = changed_by command ≡ Some id
IsOf id (Files other) = other ≡ id
IsOf id (Starts other places start launch) = other ≡ id
IsOf id (Polls other child poll) = other ≡ id
IsOf id (Talks other places talk) = other ≡ id

example : (start : Start)
    → flat_map born_in (Starts 7 (0 ∷ []) start (Given 1 0) ∷ Polls 7 1 Rattle.spawn_edge.specs.declared.event.Poll.TheVariants.Runs ∷ [])
    ≡ Began start 1 0 ∷ Polled 1 Rattle.spawn_edge.specs.declared.event.Poll.TheVariants.Runs ∷ []
example start = refl
