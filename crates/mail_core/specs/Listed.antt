-- The list of a run over the queue (Sendmail Installation and Operation Guide, the switch -q with
-- the name of a group, "Queue Groups": Jobs, and the option MinQueueAge).
use Rattle.std.specs.Prelude.{◌≡◌, ℕ, List, [], ◌∷◌, Option, Some, None, Bool, true, ◌&&◌, ◌||◌, nat_eq, nat_lt, bytes_eq, count_by, unwrap_or, if◌then◌else◌, All, Contains, refl}
use Rattle.mail_base.specs.Catalogs.{value_at}
use Rattle.mail_base.specs.Configs.{main_group}
use Rattle.spool_store.specs.Entries.{Stored, Table, ids}
use Rattle.spool_store.specs.Stores.{entered}
use Rattle.queue_table.specs.Order.{IsBefore, is_due}
use Rattle.mail_core.specs.Holding.{lane_at, wait_by}
use Rattle.mail_core.specs.Plans.{Once, Serve}
use Rattle.mail_core.specs.Sites.{Site}

-- an entry is of the group that is run, or all are
abbrev pub is_of : Option (List ℕ) → List ℕ → Bool
is_of None lane = true
is_of (Some group) lane = bytes_eq group lane

-- it is due at a moment, and of that group
abbrev pub is_wanted : Site → Option (List ℕ) → ℕ → Stored → Bool
is_wanted site group moment s =
    is_of group (lane_at site s).group && is_due s.control moment (lane_at site s).wait

-- the most entries of a lane on one list; 0 is no limit
abbrev pub jobs_of : Site → List ℕ → ℕ
jobs_of site lane = (unwrap_or (value_at lane site.config.groups) main_group).jobs

abbrev pub is_beside : Site → Stored → Stored → Bool
is_beside site s other = bytes_eq (lane_at site other).group (lane_at site s).group

-- among these an entry has a place still
abbrev pub has_job : Site → List Stored → Stored → Bool
has_job site taken s =
    nat_eq (jobs_of site (lane_at site s).group) 0
    || nat_lt (count_by (is_beside site s) taken) (jobs_of site (lane_at site s).group)

-- of entries in their order those that have a place behind the ones that were taken
abbrev pub with_jobs : Site → List Stored → List Stored → List Stored
with_jobs site taken [] = []
with_jobs site taken (s ∷ entries) =
    if has_job site taken s then s ∷ with_jobs site (s ∷ taken) entries
    else with_jobs site taken entries

-- each goes before all behind it
abbrev pub AreInOrder : List Stored → Type 0
AreInOrder [] = Unit {0}
AreInOrder (s ∷ entries) =
    All (λ other. IsBefore (entered s).entry (entered other).entry) entries × AreInOrder entries

-- the list that is fixed at a moment: the entries that are wanted, in their order, of each lane no
-- more than its jobs
pub record IsFixed (site : Site) (group : Option (List ℕ)) (moment : ℕ) (table : Table)
    (list : List ℕ) : Type 0 where
  pub due : List Stored
  pub order : AreInOrder due
  pub each : All (Contains table.entries) due
  pub wanted : All (λ s. is_wanted site group moment s ≡ true) due
  pub all : All (λ s. is_wanted site group moment s ≡ true → Contains due s) table.entries
  pub list_is : list ≡ ids (with_jobs site [] due)

-- the least waits are those of the groups, where one says none, of the switch -q, and in a run over
-- the queue the least age alone
example : (wait_by (Serve (Some 600)) 0 None ≡ 600) × (wait_by (Serve (Some 600)) 0 (Some 60) ≡ 60)
    × (wait_by (Serve None) 0 None ≡ 1_800) × (wait_by (Serve None) 7_200 (Some 60) ≡ 7_200)
    × (wait_by (Once None) 300 (Some 60) ≡ 300)
example = (refl, refl, refl, refl, refl)
