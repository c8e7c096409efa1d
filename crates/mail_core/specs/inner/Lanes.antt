-- What each queue group allows, by the interval that is usual. Of it `IsUsual` alone is asked of
-- callers.
use Rattle.std.specs.Prelude.{◌≡◌, ◌≤◌, ℕ, List, Option, None, Some, codes, length, map, max, take, unwrap_or}
use Rattle.mail_base.specs.Catalogs.{value_at}
use Rattle.mail_base.specs.Configs.{main_group}
use Rattle.mail_base.specs.declared.mailer.Group.{Group}
use Rattle.queue_table.specs.declared.waiting.Lane.{Lane}
use Rattle.mail_core.specs.Holding.{usual_interval}
use Rattle.mail_core.specs.Plans.{Plan, Serve, Once}

-- the interval of a group that says none, or none in a run over the queue
abbrev pub IsUsual : Plan → Option ℕ → Type 0
IsUsual (Serve wait) usual = usual ≡ Some (unwrap_or wait usual_interval)
IsUsual (Once group) usual = usual ≡ None

-- the least seconds between two tries, where the least age and the interval of the group are those
abbrev pub least_wait : (usual : Option ℕ) → (age : ℕ) → (interval : Option ℕ) → ℕ
least_wait (Some usual) age interval = max age (unwrap_or interval usual)
least_wait None age interval = age

-- the lane of a group
abbrev pub lane : (usual : Option ℕ) → (age : ℕ) → (name : List ℕ) → Group → Lane
lane usual age name group = record {
  group = name;
  wait = least_wait usual age group.interval;
  runners = group.runners;
}

abbrev pub named_lane : (usual : Option ℕ) → (age : ℕ) → List ℕ × Group → List ℕ × Lane
named_lane usual age pair = (pair.0, lane usual age pair.0 pair.1)

-- the lane of mqueue
abbrev pub main_lane : (usual : Option ℕ) → (age : ℕ) → List (List ℕ × Group) → Lane
main_lane usual age groups =
    lane usual age (codes "mqueue") (unwrap_or (value_at (codes "mqueue") groups) main_group)

-- of the first so many pairs each was set, as f makes it: where none is missing, these are all
pub record AreSet {U V : Type 0} (f : List ℕ × U → List ℕ × V) (pairs : List (List ℕ × U))
    (count : ℕ) (done : List (List ℕ × V)) : Type 0 where
  pub few : length done ≤ count
  pub all : length done ≡ count → done ≡ map f (take count pairs)
