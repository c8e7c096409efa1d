-- What a run stands at between its events (own).
use Rattle.std.specs.Prelude.{ℕ, List, [], ◌++◌, Option, Some, Bool}
use Rattle.spool_store.specs.Entries.{Table}
use Rattle.queue_run.specs.Holders.{Holder}
use Rattle.mail_core.specs.Effects.{Effect}
use Rattle.mail_core.specs.Guests.{Guest}

-- why a run ended: all was done that it was made for; the spool failed; an id is wanted and none is
-- left; files failed that the judge reads; there was no memory for a runner
pub data Ending : Type 0 where
  Finished : Ending
  SpoolFault : Ending
  IdsSpent : Ending
  FilesFault : Ending
  NoMemory : Ending

-- how a run is over: it ended so, or it is cut where a choice is missing
pub data Finish : Type 0 where
  By : (ending : Ending) → Finish
  Cut : Finish

-- who holds an entry, and the lane in which its queue group counts it
pub record Seat : Type 0 where
  pub lane : List ℕ
  pub holder : Holder

-- the table, the open sessions, the entries that are held, of which the first one's holder takes
-- the next step, what is left of the list of a run over the queue, the greatest reading of the
-- clock so far, whether a Stop was told, and how the run is over, once it is
pub record State : Type 0 where
  pub table : Table
  pub guests : List Guest
  pub seats : List Seat
  pub list : List ℕ
  pub latest : ℕ
  pub stopping : Bool
  pub over : Option Finish

-- a state, and what was done to come to it
pub record Step : Type 0 where
  pub state : State
  pub effects : List Effect

abbrev pub still : State → Step
still m = record { state = m; effects = [] }

-- a choice is missing, or doesn't fit: the run is cut here
abbrev pub cut : State → Step
cut m = record { state = record m { over = Some Cut }; effects = [] }

abbrev pub ended : State → Ending → Step
ended m ending = record { state = record m { over = Some (By ending) }; effects = [] }

-- something was done before a step
abbrev pub headed : List Effect → Step → Step
headed effects step = record step { effects = effects ++ step.effects }

-- what comes after a step
abbrev pub followed : Step → Step → Step
followed first later = record later { effects = first.effects ++ later.effects }
