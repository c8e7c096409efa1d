-- The batches in which rows are tried (Sendmail Installation and Operation Guide, M: Define Mailer,
-- its flag m and its field r).
use Rattle.std.specs.Prelude.{◌≡◌, ℕ, ◌+◌, nat_eq, nat_lt, List, [], ◌∷◌, ◌++◌, fold, length, map, Option, Some, None, Bool, false, ◌&&◌, bytes_eq, codes, if◌then◌else◌, refl}
use Rattle.std.specs.List.{list_any}
use Rattle.mail_base.specs.Catalogs.{value_like}
use Rattle.mail_base.specs.Configs.{initial}
use Rattle.mail_base.specs.States.{is_queued}
use Rattle.mail_base.specs.declared.config.Config.{Config}
use Rattle.mail_base.specs.declared.control.Row.{Row}
use Rattle.mail_base.specs.declared.mailer.Mailer.{Mailer}
use Rattle.mail_base.specs.declared.route.Resolved.{Resolved}
use Rattle.mail_base.specs.declared.route.Resolved.TheVariants.{Goes, Refuses}
use Rattle.mail_base.specs.declared.route.Triple.{Triple}
use Rattle.addr_route.specs.Aims.{has_flag}
use Rattle.queue_run.specs.declared.batch.Batch.{Batch}
use Rattle.queue_run.specs.declared.batch.Routed.{Routed}
use Rattle.queue_run.specs.declared.course.Course.{Course}
use Rattle.mailer_pipe.specs.Arguments.{is_argument}

-- where a row goes that may stand in a batch with others: its mailer and host. One that goes nowhere
-- stands alone, and so does one whose user no program can be given
abbrev pub course_by : Triple → Option Course
course_by triple =
    if is_argument triple.user
    then Some (record { mailer = triple.mailer; host = triple.host }) else None

abbrev pub course_of : Resolved → Option Course
course_of (Goes triple) = course_by triple
course_of (Refuses error) = None

abbrev pub same : Course → Course → Bool
same one other = bytes_eq one.mailer other.mailer && bytes_eq one.host other.host

abbrev pub goes_by : Course → Option Course → Bool
goes_by course None = false
goes_by course (Some other) = same course other

-- the most rows that a mailer takes together: with the flag m (109) as many as r says, else one
abbrev pub most_by : Option Mailer → ℕ
most_by None = 1
most_by (Some mailer) = if has_flag 109 mailer then mailer.batch else 1

abbrev pub most_at : Config → Course → ℕ
most_at config course = most_by (value_like course.mailer config.mailers)

-- a batch that goes the same way has room
abbrev pub has_room : Config → Option Course → Batch → Bool
has_room config None batch = false
has_room config (Some course) batch =
    goes_by course (course_of batch.resolved)
    && nat_lt (length batch.places) (most_at config course)

-- so it takes a row
abbrev pub takes : Config → Routed → Batch → Bool
takes config row batch = has_room config (course_of row.resolved) batch

abbrev pub user_of : Resolved → List ℕ
user_of (Goes triple) = triple.user
user_of (Refuses error) = []

-- the batch that a row begins, and one with a row more
abbrev pub begun : Routed → Batch
begun row =
    record { resolved = row.resolved; places = row.place ∷ []; users = user_of row.resolved ∷ [] }

abbrev pub added : Routed → Batch → Batch
added row batch =
    record batch {
      places = batch.places ++ row.place ∷ [];
      users = batch.users ++ user_of row.resolved ∷ [];
    }

-- a row joins the first batch that takes it, or else begins the last one
abbrev pub joined : Config → Routed → List Batch → List Batch
joined config row [] = begun row ∷ []
joined config row (batch ∷ batches) =
    if takes config row batch then added row batch ∷ batches
    else batch ∷ joined config row batches

-- the batches of rows, in the order in which they are tried: the first row that wasn't tried, with
-- as many of the later ones as go the same way and have room
abbrev pub batches_of : Config → List Routed → List Batch
batches_of config rows = fold (λ batches row. joined config row batches) [] rows

abbrev pub is_among : List ℕ → ℕ → Bool
is_among places place = list_any (nat_eq place) places

-- ---- the rows of an entry

-- a row that is still tried, by its place
pub record Waiting : Type 0 where
  pub place : ℕ
  pub address : List ℕ

abbrev pub waiting_at : ℕ → Row → List Waiting
waiting_at place row =
    if is_queued row.state then record { place = place; address = row.address } ∷ [] else []

-- the rows that are still tried, from a place on
abbrev pub waiting_from : ℕ → List Row → List Waiting
waiting_from place [] = []
waiting_from place (row ∷ rows) = waiting_at place row ++ waiting_from (place + 1) rows

row : ℕ → List ℕ → Routed
row place host = record {
  place = place;
  resolved = Goes (record { mailer = codes "smtp"; host = host; user = place ∷ [] });
}

places : Batch → List ℕ
places batch = batch.places

-- without a mailer of that name each row stands alone
example : map places (batches_of initial (row 0 (codes "a") ∷ row 1 (codes "a") ∷ []))
    ≡ (0 ∷ []) ∷ (1 ∷ []) ∷ []
unfolding row places
example = refl
