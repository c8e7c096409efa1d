-- The list of a run over the queue as code fixes it, over the entries that a store holds. It need
-- not be believed: only private contracts cite it.
use Rattle.std.specs.Prelude.{ℕ, ◌+◌, List, [], ◌∷◌, Option, None, Some, Bool, true, false, ◌&&◌, ◌||◌, nat_eq, nat_lt, unwrap_or, if◌then◌else◌, codes}
use Rattle.mail_base.specs.Catalogs.{value_at, with_value}
use Rattle.mail_base.specs.Configs.{main_group}
use Rattle.mail_base.specs.declared.config.Config.{Config}
use Rattle.mail_base.specs.declared.mailer.Group.{Group}
use Rattle.spool_store.specs.declared.held.Held.{Held}
use Rattle.queue_table.specs.Order.{IsBefore, is_due}
use Rattle.mail_core.specs.Listed.{is_of}

-- ---- the entries that are wanted

-- a group that is configured is a lane of its own, and each other one counts as mqueue
abbrev pub own_or_main : List ℕ → Option Group → List ℕ
own_or_main group None = codes "mqueue"
own_or_main group (Some own) = group

abbrev pub lane_in : List (List ℕ × Group) → List ℕ → List ℕ
lane_in groups group = own_or_main group (value_at group groups)

-- an entry is of the group that is run, and due at a moment
abbrev pub is_wanted : Config → Option (List ℕ) → ℕ → Held → Bool
is_wanted config group moment h =
    is_of group (lane_in config.groups h.entry.control.group)
    && is_due h.entry.control moment config.options.min_queue_age

-- it doesn't go before the other one, which is behind it
abbrev pub GoesOn : Held → Held → Type 0
GoesOn one other = IsBefore other.entry one.entry → ⊥

-- ---- their jobs

-- how many entries of each lane with a limit are on the list so far
abbrev pub Counts : Type 0
Counts = List (List ℕ × ℕ)

abbrev pub count_at : List ℕ → Counts → ℕ
count_at lane counts = unwrap_or (value_at lane counts) 0

abbrev pub jobs_in : List (List ℕ × Group) → List ℕ → ℕ
jobs_in groups lane = (unwrap_or (value_at lane groups) main_group).jobs

-- a lane of so many jobs has a place still
abbrev pub has_place : (jobs : ℕ) → List ℕ → Counts → Bool
has_place jobs lane counts = nat_eq jobs 0 || nat_lt (count_at lane counts) jobs

-- the counts where an entry more is on the list; without a limit nothing is counted
abbrev pub counted : (jobs : ℕ) → List ℕ → Counts → Counts
counted jobs lane counts =
    if nat_eq jobs 0 then counts else with_value lane (count_at lane counts + 1) counts

-- the counts where a place was asked for
abbrev pub counts_after : (jobs : ℕ) → List ℕ → Counts → Counts
counts_after jobs lane counts =
    if has_place jobs lane counts then counted jobs lane counts else counts

-- both for an entry of a group
abbrev pub place_in : List (List ℕ × Group) → List ℕ → Counts → Bool
place_in groups group counts =
    has_place (jobs_in groups (lane_in groups group)) (lane_in groups group) counts

abbrev pub counts_in : List (List ℕ × Group) → List ℕ → Counts → Counts
counts_in groups group counts =
    counts_after (jobs_in groups (lane_in groups group)) (lane_in groups group) counts

-- an id in front, where its entry has a place
abbrev pub put_if : Bool → ℕ → List ℕ → List ℕ
put_if true id ids = id ∷ ids
put_if false id ids = ids

-- of entries in their order those that have a place
abbrev pub picked : List (List ℕ × Group) → Counts → List Held → List ℕ
picked groups counts [] = []
picked groups counts (h ∷ hs) =
    put_if (place_in groups h.entry.control.group counts) h.entry.id
    (picked groups (counts_in groups h.entry.control.group counts) hs)
