-- What is seen of the devices of a run, and what a list of effects makes of it (own).
use Rattle.std.specs.Prelude.{◌≡◌, ℕ, ◌+◌, ◌≤◌, List, length, Bool, true, false}
use Rattle.mail_base.specs.Histories.{Gains}
use Rattle.mail_edge.specs.Seen.{ClockSeen}
use Rattle.link_edge.specs.Dials.{DialSeen}
use Rattle.link_edge.specs.Heard.{Heard}
use Rattle.spawn_edge.specs.Spawned.{Spawned}
use Rattle.spool_disk.specs.Disk.{FileMap}
use Rattle.spool_disk.specs.Spooled.{Spooled}
use Rattle.spool_store.specs.Entries.{Table}
use Rattle.spool_store.specs.Moves.{Moves}
use Rattle.spool_store.specs.Queue.{Spot, IsStrange}
use Rattle.spool_store.specs.Settled.{StandsFor}
use Rattle.spool_store.specs.Stores.{KeepsOthers}
use Rattle.queue_table.specs.Asked.{AreStoppable, IsFront, Leaves}
use Rattle.mail_core.specs.Effects.{Effect, born_of, commanded, dialled_of, heard_of, readings_of}

-- what runners work with beside the spool
pub record Hands : Type 0 where
  pub spawner : Spawned
  pub dialer : DialSeen

abbrev pub hands : Spawned → DialSeen → Hands
hands spawner dialer = record { spawner = spawner; dialer = dialer }

-- what sessions leave alone: the clock, and the hands of runners
pub record Beside : Type 0 where
  pub clock : ClockSeen
  pub hands : Hands

abbrev pub beside : ClockSeen → Hands → Beside
beside clock hands = record { clock = clock; hands = hands }

-- all that is seen
pub record Seen : Type 1 where
  pub floor : Heard
  pub spool : Spooled
  pub clock : ClockSeen
  pub hands : Hands

abbrev pub seen : Heard → Spooled → Beside → Seen
seen floor spool beside =
    record { floor = floor; spool = spool; clock = beside.clock; hands = beside.hands }

-- what no call touches stays: files that are none of the queue's, and strange ones with the bodies
-- of their ids; and these are strange still
pub record Spares (dirs : List (List ℕ)) (f g : FileMap) : Type 0 where
  pub others : KeepsOthers dirs f g
  pub strange : (s : Spot) → IsStrange dirs f s → IsStrange dirs g s

abbrev pub SparesBy : List (List ℕ) → Bool → FileMap → FileMap → Type 0
SparesBy dirs true = Spares dirs
SparesBy dirs false = KeepsOthers dirs

-- it stays in the files that are left, and in those that a stop may leave
abbrev pub IsSparing : List (List ℕ) → Spooled → Spooled → Bool → Type 0
IsSparing dirs a b well =
    (f : FileMap) → Moves a b (λ g. g ≡ f) (SparesBy dirs well f) (KeepsOthers dirs f)

-- these effects lead from a to b: what floor, clock, spawner and dialer tell; what becomes of files
-- that stood for the table, and what a stop since a may leave, unless an entry has the last
-- revision; no count falls. Strange files stay strange where the run goes on
pub record RanBy (dirs : List (List ℕ)) (table : Table) (a b : Seen) (effects : List Effect)
    (well on : Bool) : Type 0 where
  pub floor : Gains a.floor.told b.floor.told (heard_of effects)
  pub clock : Gains a.clock.told b.clock.told (readings_of effects)
  pub readings : b.clock.readings ≡ a.clock.readings + length (readings_of effects)
  pub spawner : Gains a.hands.spawner.told b.hands.spawner.told (born_of effects)
  pub dialer : Gains a.hands.dialer.told b.hands.dialer.told (dialled_of effects)
  pub spool : AreStoppable commanded table effects
      → Moves a.spool b.spool (StandsFor dirs table) (Leaves commanded dirs table effects well)
      (IsFront commanded dirs table effects)
  pub frame : IsSparing dirs a.spool b.spool on
  pub floor_faults : a.floor.faults ≤ b.floor.faults
  pub spool_faults : a.spool.faults ≤ b.spool.faults
  pub spawner_faults : a.hands.spawner.faults ≤ b.hands.spawner.faults
  pub dialer_faults : a.hands.dialer.faults ≤ b.hands.dialer.faults

-- the same, where the run goes on unless the spool failed
abbrev pub Ran : List (List ℕ) → Table → Seen → Seen → List Effect → Bool → Type 0
Ran dirs table a b effects well = RanBy dirs table a b effects well well
