-- How a run that opens the queue ends, and what was served by then (Sendmail Installation and
-- Operation Guide, "Command Line Flags": -bs, -bd and -q; the replies are those of RFC 5321; the
-- ends are own).
use Rattle.std.specs.Prelude.{◌≡◌, ◌⊎◌, ℕ, ◌+◌, ◌^◌, ◌<◌, ◌≤◌, List, [], ◌∷◌, length, take, None, Some, IfSome, is_some, Result, Ok, Err, true, false}
use Rattle.mail_base.specs.declared.config.Config.{Config}
use Rattle.mail_base.specs.Histories.{Gains, Rose}
use Rattle.cf_macros.specs.Expansion.{host_name}
use Rattle.mail_edge.specs.Seen.{ClockSeen, FilesSeen}
use Rattle.map_tables.specs.Answers.{Loaded}
use Rattle.spool_disk.specs.Disk.{FileMap}
use Rattle.spool_disk.specs.Spooled.{Reads, Spooled}
use Rattle.spool_store.specs.Entries.{Table}
use Rattle.spool_store.specs.Moves.{Moves}
use Rattle.spool_store.specs.Openings.{IsNext}
use Rattle.spool_store.specs.Settled.{StandsFor}
use Rattle.spool_store.specs.Tidying.{IsTidied}
use Rattle.queue_table.specs.Directories.{all_dirs, terms_of}
use Rattle.mail_judge.specs.Judged.{Grounds, IsJudged, answerer_of}
use Rattle.mail_judge.specs.Returned.{ReturnsTo}
use Rattle.mail_core.specs.declared.act.Act.{Act}
use Rattle.mail_core.specs.declared.act.Act.TheVariants.{Ended}
use Rattle.mail_core.specs.declared.serving.CoreStop.{CoreStop}
use Rattle.mail_core.specs.Beginning.{Start, run_over}
use Rattle.mail_core.specs.Causes.{is_judge_fault}
use Rattle.mail_core.specs.Ends.{IsEnded}
use Rattle.mail_core.specs.Judges.{JudgeSeen, judge_seen}
use Rattle.mail_core.specs.Machine.{Turn}
use Rattle.mail_core.specs.Plans.{Plan, Once, Serve}
use Rattle.mail_core.specs.Runs.{Headline}
use Rattle.mail_core.specs.Seen.{Seen}
use Rattle.mail_core.specs.Sites.{Site}
use Rattle.sendmail_run.specs.Tasks.{IsBegunAt, door_of}
use Rattle.sendmail_run.specs.declared.aliases.Names.{Names}
use Rattle.sendmail_run.specs.declared.serving_mode.ServeEnd.{ServeEnd}
use Rattle.sendmail_run.specs.declared.serving_mode.ServeEnd.TheVariants as ends
use Rattle.sendmail_run.specs.declared.task.Task.{Task}

-- the host that replies name: the value of `$j`, of which at most 255 bytes are named, and nothing
-- where it can't be expanded
abbrev pub host_of : List (List ℕ × List ℕ) → List ℕ
host_of macros = take 255 (host_name macros)

-- what a run serves with under a configuration and its maps
abbrev pub site_of : Config → Loaded → Plan → Site
site_of config maps plan =
    record {
      host = host_of config.macros;
      dirs = all_dirs (terms_of config);
      config = config;
      maps = maps;
      plan = plan;
    }

-- what the paths of sessions are judged by: the configuration, its maps, aliases and homes
abbrev pub grounds_of : Config → Loaded → Names → Grounds
grounds_of config maps names =
    record { config = config; maps = maps; aliases = names.aliases; homes = names.homes }

-- who judges them, and draws the rows of receivers of returned mail, by files that aliases and
-- homes name: what it says is told where they are
abbrev pub judge_by : Grounds → FilesSeen → JudgeSeen
judge_by grounds files =
    judge_seen (answerer_of files) (IsJudged grounds files.map) (ReturnsTo grounds files.map)

-- floor, spool and clock, spawner and dialer are as before
pub record IsLeftAlone (a b : Seen) : Type 0 where
  pub floor : b.floor ≡ a.floor
  pub clock : b.clock ≡ a.clock
  pub hands : b.hands ≡ a.hands
  pub spool : Reads a.spool b.spool
  pub spool_faults : b.spool.faults ≡ a.spool.faults

-- a queue was opened at most: whatever table the files stand for, they stand for it at the end and
-- in each image, and nothing is changed but what an opening tidies (`IsTidied`)
pub record IsTakenOver (dirs : List (List ℕ)) (old new : Spooled) : Type 0 where
  pub stands : (table : Table)
      → Moves old new (StandsFor dirs table) (StandsFor dirs table) (StandsFor dirs table)
  pub tidied : (f : FileMap) → old.told ≡ Some f
      → Moves old new (λ g. g ≡ f) (IsTidied dirs f) (IsTidied dirs f)

-- a clock was read once
pub record IsReadOnce (a b : ClockSeen) : Type 0 where
  pub reading : ℕ
  pub told : Gains a.told b.told (reading ∷ [])
  pub readings : b.readings ≡ a.readings + 1

-- it wasn't read, or in a run over the queue at most once, for its list
abbrev pub IsReadFor : Plan → ClockSeen → ClockSeen → Type 0
IsReadFor (Serve wait) a b = b ≡ a
IsReadFor (Once group) a b = (b ≡ a) ⊎ IsReadOnce a b

-- nothing was served: the queue was opened at most, and the floor is as before, so it was not
-- begun, and so are spawner and dialer
pub record IsUnserved (site : Site) (a b : Seen) : Type 0 where
  pub floor : b.floor ≡ a.floor
  pub hands : b.hands ≡ a.hands
  pub clock : IsReadFor site.plan a.clock b.clock
  pub spool : IsTakenOver site.dirs a.spool b.spool
  pub spool_faults : a.spool.faults ≤ b.spool.faults

-- a table with another first free id
abbrev pub from_id : ℕ → Table → Table
from_id next table = record { entries = table.entries; next = next }

-- a run over the queue: the first free id is that of the files where they are told, which is
-- greater than each of theirs; and it is a run over some table, which they stand for, and over
-- every table which they stand for, each with that first free id
pub record IsOverQueue (site : Site) (a : Seen) (Run : Table → Type 0) : Type 0 where
  pub next : ℕ
  pub first : IfSome a.spool.told (λ f. IsNext site.dirs f next)
  pub some : Table
  pub stands : IfSome a.spool.told (StandsFor site.dirs some)
  pub run : Run (from_id next some)
  pub each : (f : FileMap) (table : Table) → a.spool.told ≡ Some f
      → StandsFor site.dirs table f → Run (from_id next table)

-- so many turns over a table, after which the run goes on: what the devices tell since is the
-- machine's run of these turns, the files stand for its table, and each final 250 names a message
-- each of whose entries has its files there (`Headline`)
pub record IsRun (j : JudgeSeen) (site : Site) (table : Table) (count : ℕ) (a b : Seen)
    : Type 0 where
  pub start : Start
  pub table_is : start.table ≡ table
  pub turns : List Turn
  pub events : length turns ≡ count
  pub on : (run_over site start turns).state.over ≡ None
  pub headline : Headline j site start turns a b true

-- so many turns over a table, none of which was a Stop, so that the next is asked of the floor
pub record IsAsking (j : JudgeSeen) (site : Site) (table : Table) (count : ℕ) (a b : Seen)
    : Type 0 where
  pub run : IsRun j site table count a b
  pub asks : (run_over site run.start run.turns).state.stopping ≡ false

-- so many turns over a table, of which the last ended the run
pub record HasEnded (j : JudgeSeen) (site : Site) (table : Table) (count : ℕ) (a b : Seen)
    (went : Result Act CoreStop) : Type 0 where
  pub start : Start
  pub table_is : start.table ≡ table
  pub ended : IsEnded j site start count a b went

-- the floor was begun as the task says, and so many turns were served over the queue
pub record IsServed (j : JudgeSeen) (site : Site) (task : Task) (count : ℕ) (a b : Seen)
    : Type 0 where
  pub begun : IsBegunAt (door_of site.config task) a.floor b.floor
  pub over : IsOverQueue site a (λ table. IsRun j site table count a b)

-- the floor was begun so, at most 2^60 turns were served over the queue, and the last of them ended
-- the run so
pub record IsServedOut (j : JudgeSeen) (site : Site) (task : Task) (a b : Seen)
    (went : Result Act CoreStop) : Type 0 where
  pub count : ℕ
  pub few : count ≤ 2 ^ 60
  pub begun : IsBegunAt (door_of site.config task) a.floor b.floor
  pub over : IsOverQueue site a (λ table. HasEnded j site table count a b went)

-- the floor was to be begun, and failed as it began, or as it was asked for the turn after so many,
-- which are fewer than a run may have
pub record HasLostFloor (j : JudgeSeen) (site : Site) (task : Task) (a b : Seen) : Type 0 where
  pub door : is_some (door_of site.config task) ≡ true
  pub count : ℕ
  pub few : count < 2 ^ 60
  pub begun : IsBegunAt (door_of site.config task) a.floor b.floor
  pub over : IsOverQueue site a (λ table. IsAsking j site table count a b)
  pub rose : Rose a.floor.faults b.floor.faults

-- how a run ends, where the judge has counted so many faults then: by a fault of the judge only
-- where its count rose
abbrev pub Serves : JudgeSeen → ℕ → Site → Task → Seen → Seen → ServeEnd → Type 0
Serves j faults site task a b ends.NotOpened =
    IsUnserved site a b × Rose a.spool.faults b.spool.faults
Serves j faults site task a b ends.NoMemory = IsUnserved site a b
Serves j faults site task a b ends.FloorFault = HasLostFloor j site task a b
Serves j faults site task a b ends.Finished = IsServedOut j site task a b (Ok Ended)
Serves j faults site task a b (ends.Over stop) =
    (is_judge_fault {T = Act} (Err stop) ≡ true → Rose j.answerer.faults faults)
    × IsServedOut j site task a b (Err stop)
Serves j faults site task a b (ends.TurnsSpent count) =
    (count ≡ 2 ^ 60) × IsServed j site task count a b
