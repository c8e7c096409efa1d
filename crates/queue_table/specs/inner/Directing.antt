-- How the directories of groups are gathered. It need not be believed: only private contracts cite
-- it.
use Rattle.std.specs.Prelude.{ℕ, List, Option, None, Some}
use Rattle.mail_base.specs.declared.mailer.Group.{Group}
use Rattle.queue_table.specs.Directories.{with_group}

-- the same of the group at a place, if there is one
abbrev pub with_group_at : List (List ℕ) → Option (List ℕ × Group) → List (List ℕ)
with_group_at dirs None = dirs
with_group_at dirs (Some group) = with_group dirs group
