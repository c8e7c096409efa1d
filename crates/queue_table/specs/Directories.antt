-- What commands take from a configuration, and the directories of queue groups (Sendmail
-- Installation and Operation Guide, "Queue Groups"; that a group which isn't configured counts as
-- mqueue is our own).
use Rattle.std.specs.Prelude.{◌≡◌, ℕ, List, [], ◌∷◌, ◌++◌, Option, None, Some, bytes_eq, codes, fold, if◌then◌else◌, refl}
use Rattle.std.specs.List.{list_any}
use Rattle.mail_base.specs.Catalogs.{value_at}
use Rattle.mail_base.specs.Configs.{initial, main_group}
use Rattle.mail_base.specs.declared.config.Config.{Config}
use Rattle.mail_base.specs.declared.mailer.Group.{Group}
use Rattle.queue_table.specs.Priorities.{factors_of}
use Rattle.queue_table.specs.declared.terms.Terms.{Terms}

abbrev pub terms_of : Config → Terms
terms_of config =
    record {
      factors = factors_of config.options;
      groups = config.groups;
      queue_directory = config.options.queue_directory;
      queue_return = config.options.queue_return;
    }

-- the directory of a group, or another one where there is none
abbrev pub path_or : List ℕ → Option Group → List ℕ
path_or other None = other
path_or other (Some group) = group.path

-- the directory of mqueue
abbrev pub main_dir : Terms → List ℕ
main_dir terms = path_or terms.queue_directory (value_at (codes "mqueue") terms.groups)

-- the directory of the group of a name
abbrev pub dir_of : Terms → List ℕ → List ℕ
dir_of terms name = path_or (main_dir terms) (value_at name terms.groups)

-- directories with one more behind them, unless it is among them
abbrev pub with_dir : List (List ℕ) → List ℕ → List (List ℕ)
with_dir dirs dir = if list_any (bytes_eq dir) dirs then dirs else dirs ++ dir ∷ []

-- with that of a group
abbrev pub with_group : List (List ℕ) → List ℕ × Group → List (List ℕ)
with_group dirs group = with_dir dirs group.1.path

-- the directories of all groups, each once: that of mqueue, and then those of the others in the
-- order of their Q lines
abbrev pub all_dirs : Terms → List (List ℕ)
all_dirs terms = fold with_group (main_dir terms ∷ []) terms.groups

-- a configuration with the groups a and b, of which b is in the directory of mqueue
abbrev grouped : Config
grouped =
    record initial {
      groups = (codes "mqueue", main_group)
          ∷ (codes "a", record main_group { path = codes "/q/a" }) ∷ (codes "b", main_group) ∷ [];
    }

-- before any line of a configuration each group is in the queue directory; a directory of several
-- groups is told once
example : (dir_of (terms_of initial) (codes "bulk") ≡ codes "/var/spool/mqueue")
    × (all_dirs (terms_of grouped) ≡ codes "/var/spool/mqueue" ∷ codes "/q/a" ∷ [])
example = (refl, refl)
