-- How a run begins (own; the list of a run over the queue is that of the switch -q of the Sendmail
-- Installation and Operation Guide).
use Rattle.std.specs.Prelude.{◌≡◌, ℕ, List, [], ◌∷◌, Option, Some, None, false, unwrap_or}
use Rattle.spool_store.specs.Entries.{Table}
use Rattle.mail_core.specs.Effects.{Effect, Ticks}
use Rattle.mail_core.specs.Listed.{IsFixed}
use Rattle.mail_core.specs.Machine.{Turn, moment_by, run}
use Rattle.mail_core.specs.Plans.{Plan, Serve, Once}
use Rattle.mail_core.specs.Sites.{Site}
use Rattle.mail_core.specs.States.{State, Step, headed}

-- the table, the list of a run over the queue, and the reading of the clock by which it was fixed
pub record Start : Type 0 where
  pub table : Table
  pub list : List ℕ
  pub first : Option ℕ

-- where sessions are served nothing is fixed
abbrev pub served : Table → Start
served table = record { table = table; list = []; first = None }

-- the state in which a run begins
abbrev pub beginning : Start → State
beginning start = record {
  table = start.table;
  guests = [];
  seats = [];
  list = start.list;
  latest = moment_by 0 (unwrap_or start.first 0);
  stopping = false;
  over = None;
}

-- the first reading, if there was one
abbrev pub ticks : Option ℕ → List Effect
ticks None = []
ticks (Some reading) = Ticks reading ∷ []

-- a run of these turns from its start on
abbrev pub run_over : Site → Start → List Turn → Step
run_over site start turns = headed (ticks start.first) (run site (beginning start) turns)

-- a run over the queue fixes its list by one reading of its own
pub record IsFixedAt (site : Site) (group : Option (List ℕ)) (start : Start) : Type 0 where
  pub reading : ℕ
  pub first : start.first ≡ Some reading
  pub fixed : IsFixed site group (moment_by 0 reading) start.table start.list

abbrev pub IsStartMeant : Site → Plan → Start → Type 0
IsStartMeant site (Serve wait) start = start ≡ served start.table
IsStartMeant site (Once group) start = IsFixedAt site group start
