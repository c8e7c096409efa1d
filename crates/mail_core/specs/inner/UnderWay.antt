-- What the loop over the turns keeps. It need not be believed: only private contracts cite it.
use Rattle.std.specs.Prelude.{◌≡◌, ℕ, ◌+◌, List, Some, length, true}
use Rattle.spool_disk.specs.Disk.{FileMap}
use Rattle.spool_store.specs.Settled.{StandsFor}
use Rattle.queue_table.specs.Asked.{AreStoppable}
use Rattle.mail_core.specs.declared.serving.Core.{Core}
use Rattle.mail_core.specs.Beginning.{Start, beginning, run_over, ticks}
use Rattle.mail_core.specs.Effects.{commanded, readings_of}
use Rattle.mail_core.specs.Judges.{JudgeSeen}
use Rattle.mail_core.specs.Machine.{Turn}
use Rattle.mail_core.specs.Meant.{AreRead, IsRunMeant}
use Rattle.mail_core.specs.Seen.{Seen, Ran}
use Rattle.mail_core.specs.Sites.{Site}
use Rattle.mail_core.specs.Standing.{MayGoOn, Stands}

-- the bodies that the steps of these turns read are those of the table, where the files stood for
-- that of the start
abbrev pub IsReadSince : Site → Start → List Turn → Seen → Type 0
IsReadSince site start turns a =
    (files : FileMap) → a.spool.told ≡ Some files → StandsFor site.dirs start.table files
    → AreStoppable commanded start.table (run_over site start turns).effects
    → AreRead site (beginning start) turns

-- a run that may go on, after so many turns
pub record IsUnderWay (j : JudgeSeen) (site : Site) (start : Start) (core : Core) (count : ℕ)
    (a b : Seen) : Type 0 where
  pub turns : List Turn
  pub events : length turns ≡ count
  pub meant : IsRunMeant j site (beginning start) turns
  pub read : IsReadSince site start turns a
  pub ran : Ran site.dirs start.table a b (run_over site start turns).effects true
  pub readings : b.clock.readings
      ≡ a.clock.readings + length (readings_of (ticks start.first)) + count
  pub stands : Stands site core (run_over site start turns).state
  pub able : MayGoOn core b.spool b.hands.spawner
