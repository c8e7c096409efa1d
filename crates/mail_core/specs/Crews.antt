-- What a crew keeps, and what of the machine it stands for.
use Rattle.std.specs.Prelude.{◌≡◌, ◌≢◌, ℕ, List, [], ◌∷◌, map, All, Option, Some, None, IfSome, Bool, true, count_by}
use Rattle.spawn_edge.specs.Spawned.{Spawned}
use Rattle.queue_table.specs.Calls.{store}
use Rattle.queue_table.specs.Claims.{IsQuiet, is_held}
use Rattle.queue_table.specs.declared.table.Table.{Table}
use Rattle.queue_table.specs.declared.waiting.Holder.{Holder as Held}
use Rattle.queue_table.specs.declared.waiting.Waiting.{Waiting}
use Rattle.queue_run.specs.Holders.{holder_of}
use Rattle.queue_run.specs.Ready.{IsReady}
use Rattle.queue_run.specs.Working.{HasChild}
use Rattle.queue_run.specs.declared.runner.Runner.{Runner}
use Rattle.queue_run.specs.declared.runner.Running.{Running}
use Rattle.mail_core.specs.Holding.{held_as, main_lane, waiting_of}
use Rattle.mail_core.specs.Plans.{Plan, Serve, Once}
use Rattle.mail_core.specs.Sites.{Site}
use Rattle.mail_core.specs.States.{Seat, State}
use Rattle.mail_core.specs.declared.crew.Crew.{Crew}

-- ---- runners

-- a runner may take a step
pub record IsAble (kept : Table) (spawner : Spawned) (r : Runner) : Type 0 where
  pub ready : IsReady kept r
  pub child : HasChild spawner r

-- if both have a child, these are two
abbrev pub HaveTwo : Runner → Runner → Type 0
HaveTwo r other =
    IfSome r.running (λ (one : Running).
    IfSome other.running (λ (two : Running). two.child ≢ one.child))

-- two runners hold two entries, and where a spawner tells, their children are two
pub record IsBeside (spawner : Spawned) (r other : Runner) : Type 0 where
  pub ids : other.id ≢ r.id
  pub children : IfSome spawner.told (λ history. HaveTwo r other)

-- so does each with each
abbrev pub AreBeside : Spawned → List Runner → Type 0
AreBeside spawner [] = Unit {0}
AreBeside spawner (r ∷ rs) = All (IsBeside spawner r) rs × AreBeside spawner rs

-- a table leaves each runner ready
abbrev pub KeepsReady : Table → Table → Type 0
KeepsReady old new = (r : Runner) → IsReady old r → IsReady new r

-- runners that may take steps, one after another
pub record AreAble (kept : Table) (spawner : Spawned) (runners : List Runner) : Type 0 where
  pub each : All (IsAble kept spawner) runners
  pub beside : AreBeside spawner runners

-- the entry of a runner is held
abbrev pub HasPlace : Waiting → Runner → Type 0
HasPlace w r = is_held w.holders r.id ≡ true

-- a crew may go on
pub record IsManned (kept : Table) (spawner : Spawned) (crew : Crew) : Type 0 where
  pub able : AreAble kept spawner crew.runners.items
  pub held : All (HasPlace crew.waiting) crew.runners.items
  pub quiet : IsQuiet crew.waiting (store kept).entries

-- ---- the machine's half

-- in any order, the same holders
abbrev pub AreSame : List Held → List Held → Type 0
AreSame some more = (p : Held → Bool) → count_by p some ≡ count_by p more

-- the lanes are those of a site, and they have these holders
pub record IsWaiting (site : Site) (w : Waiting) (seats : List Seat) : Type 0 where
  pub lanes : w.lanes ≡ (waiting_of site []).lanes
  pub other : w.other ≡ main_lane site
  pub holders : AreSame (map held_as seats) w.holders

-- a crew has a list exactly in a run over the queue
abbrev pub IsListOf : Plan → Option (List ℕ) → List ℕ → Type 0
IsListOf (Serve wait) list ids = list ≡ None
IsListOf (Once group) list ids = list ≡ Some ids

-- a crew stands for who holds entries in a state, and for the list
pub record IsCrew (site : Site) (crew : Crew) (m : State) : Type 0 where
  pub runners : map holder_of crew.runners.items ≡ map (λ (seat : Seat). seat.holder) m.seats
  pub waiting : IsWaiting site crew.waiting m.seats
  pub list : IsListOf site.plan crew.list m.list
