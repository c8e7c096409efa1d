-- Lists of runs over the queue, computed.
use Rattle.std.proofs.Common.{◌≡◌, ℕ, List, [], ◌∷◌, true, false, Some, None, refl}
use Rattle.std.specs.Prelude.{codes}
use Rattle.mail_base.specs.Configs.{initial, main_group, new_group}
use Rattle.mail_base.specs.declared.config.Config.{Config}
use Rattle.mail_base.specs.declared.control.Control.{Control}
use Rattle.mail_base.specs.declared.control.State.TheVariants.{Queued}
use Rattle.mail_base.specs.declared.mailer.Group.{Group}
use Rattle.spool_store.specs.Entries.{Stored, ids}
use Rattle.mail_core.specs.Listed.{is_wanted, with_jobs}
use Rattle.mail_core.specs.Plans.{Once}
use Rattle.mail_core.specs.Sites.{Site}

-- a run over the queue, where mqueue has so many jobs and bulk one
abbrev bulk : Group
bulk = record (new_group (codes "bulk") (codes "/q/bulk")) { jobs = 1 }

abbrev config : ℕ → Config
config jobs = record initial {
  groups = (codes "mqueue", record main_group { jobs = jobs }) ∷ (codes "bulk", bulk) ∷ [];
  options = record initial.options { min_queue_age = 300 };
}

abbrev site : ℕ → Site
site jobs = record {
  host = codes "mx.example";
  dirs = [];
  config = config jobs;
  maps = record { maps = []; hosts = [] };
  plan = Once None;
}

-- an entry of a group
abbrev entry : Control → List ℕ → ℕ → Stored
entry control group id =
    record { id = id; dir = codes "/q"; control = record control { group = group }; body = [] }

-- of two entries of bulk the first is on the list, and without a limit each of mqueue
first_of_bulk : (control : Control)
    → ids (with_jobs (site 0) [] (entry control (codes "bulk") 7 ∷ entry control (codes "mqueue") 3 ∷ entry control (codes "bulk") 9 ∷ entry control (codes "mqueue") 4 ∷ [])) ≡ 7 ∷ 3 ∷ 4 ∷ []
first_of_bulk control = refl

-- an entry of a group that isn't configured takes a place of mqueue
others_in_mqueue : (control : Control)
    → ids (with_jobs (site 2) [] (entry control (codes "other") 7 ∷ entry control (codes "mqueue") 3 ∷ entry control (codes "more") 9 ∷ entry control (codes "bulk") 4 ∷ [])) ≡ 7 ∷ 3 ∷ 4 ∷ []
others_in_mqueue control = refl

-- an entry that was tried, with a row that is still tried
abbrev tried : Control → List ℕ → Stored
tried control group = record {
  id = 7;
  dir = codes "/q";
  control = record control {
    group = group;
    tries = 1;
    last_try = 1_000;
    rows = record { address = codes "ann@mx.example"; primary = true; state = Queued None } ∷ [];
  };
  body = [];
}

-- it is wanted after the least age, in a run of all groups and in one of its own lane
due_by_age : (control : Control)
    → (is_wanted (site 0) None 1_299 (tried control (codes "bulk")) ≡ false)
    × (is_wanted (site 0) None 1_300 (tried control (codes "bulk")) ≡ true)
    × (is_wanted (site 0) (Some (codes "bulk")) 1_300 (tried control (codes "bulk")) ≡ true)
    × (is_wanted (site 0) (Some (codes "mqueue")) 1_300 (tried control (codes "bulk")) ≡ false)
    × (is_wanted (site 0) (Some (codes "mqueue")) 1_300 (tried control (codes "other")) ≡ true)
due_by_age control = (refl, refl, refl, refl, refl)
