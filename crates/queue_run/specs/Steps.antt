-- One step of a runner (own; the order of what a runner does is that of the Sendmail Installation
-- and Operation Guide, "The Queue": rows are tried, failed ones are returned, senders are warned).
use Rattle.std.specs.Prelude.{ℕ, ◌+◌, ℤ, List, [], ◌∷◌, ◌++◌, length, drop, Option, Some, None, Bool, true, false, not, ◌&&◌, nat_lt, nat_eq, sum_by, if◌then◌else◌}
use Rattle.mail_base.specs.declared.config.Config.{Config}
use Rattle.mail_base.specs.declared.id.TheConstants.Id.{MOST}
use Rattle.mail_base.specs.declared.draw.Draw.{Draw}
use Rattle.mail_base.specs.declared.mailer.Mailer.{Mailer}
use Rattle.mail_base.specs.declared.message.Back.{Back}
use Rattle.mail_base.specs.declared.outcome.Result1.{Result1}
use Rattle.map_tables.specs.Answers.{Loaded}
use Rattle.mailer_pipe.specs.Ends.{ended_with}
use Rattle.spawn_edge.specs.declared.event.Poll.TheVariants as polls
use Rattle.spawn_edge.specs.declared.event.Start.{Start}
use Rattle.spool_store.specs.Entries.{Table}
use Rattle.queue_table.specs.Commands.{Command, after, control_at}
use Rattle.queue_table.specs.Commands.Command.{Record, Return, Warn}
use Rattle.queue_table.specs.Directories.{terms_of}
use Rattle.queue_run.specs.declared.batch.Batch.{Batch}
use Rattle.queue_run.specs.declared.letter.Letter.{Letter}
use Rattle.queue_run.specs.declared.runner.Did.{Did}
use Rattle.queue_run.specs.declared.runner.Did.TheVariants as did
use Rattle.queue_run.specs.declared.runner.RunStop.{RunStop}
use Rattle.queue_run.specs.declared.runner.RunStop.TheVariants as stop
use Rattle.queue_run.specs.Deeds.{Deed, Asks, Files, Frees, Launch, Given, Polls, Starts as Launches, Talks as Delivers, Talk}
use Rattle.queue_run.specs.Holders.{Attempt, Holder}
use Rattle.queue_run.specs.Kinds.{Kind, Waits, Settles, Starts, Talks, Buries, Returns, Warns, Finishes, Leaves, kind_of}
use Rattle.queue_run.specs.Results.{alike, device_fault, too_large}

-- why a run ends in a step: for this cause; or what is left open doesn't fit, and it is no step
pub data Halt : Type 0 where
  By : (cause : RunStop) → Halt
  Unfit : Halt

-- how a step goes, as far as the machine can't know: what a device answered, what was made for it,
-- and whether the spool failed at the command that follows. Behind what a device answered nothing
-- else is left open
pub data Luck : Type 0 where
  -- of a child that is polled
  StillRuns : Luck
  Exits : (status : ℤ) (failed : Bool) → Luck
  Loses : (failed : Bool) → Luck
  -- of a batch: it needs no attempt; its text is too large; a program was started for it, or could
  -- not be; it was delivered to peers
  Records : (failed : Bool) → Luck
  Outgrows : (letter : Letter) (failed : Bool) → Luck
  Begins : (letter : Letter) (start : Start) (child missed : ℕ) → Luck
  Misses : (letter : Letter) (start : Start) (launch : Launch) (failed : Bool) → Luck
  Ends : (letter : Letter) (talk : Talk) (failed : Bool) → Luck
  -- at the end: failed rows are given back by a bounce to the rows that were drawn for its receiver,
  -- or are dead; a warning is sent to such rows; the entry is finished; it is let go
  Gives : (body : List ℕ) (rows : List Draw) (bounce : Back) (failed : Bool) → Luck
  Dies : (failed : Bool) → Luck
  Tells : (rows : List Draw) (warning : Back) (failed : Bool) → Luck
  Closes : (failed : Bool) → Luck
  LetsGo : Luck
  -- before a device is asked, memory is wanting, or what is read fails
  Lacks : (cause : RunStop) → Luck

-- what a step came to: the holder, unless it is free; the table; what was done; its answer; and why
-- the run ends, if it does
pub record Stepped : Type 0 where
  pub holder : Option Holder
  pub table : Table
  pub deeds : List Deed
  pub answer : Did
  pub over : Option Halt

-- nothing was done
abbrev pub halts : Table → Holder → Halt → Stepped
halts table h halt =
    record { holder = Some h; table = table; deeds = []; answer = did.Waits; over = Some halt }

abbrev pub unfit : Table → Holder → Stepped
unfit table h = halts table h Unfit

abbrev pub fault_if : Bool → Option Halt
fault_if true = Some (By stop.SpoolFault)
fault_if false = None

-- what was asked beside commands
abbrev pub does : Table → Holder → List Deed → Did → Stepped
does table next deeds answer =
    record { holder = Some next; table = table; deeds = deeds; answer = answer; over = None }

-- the last deed is a command
abbrev pub asks : Table → Holder → List Deed → Command → Did → Bool → Stepped
asks table next deeds command answer failed = record {
  holder = Some next;
  table = after table command;
  deeds = deeds ++ Asks command ∷ [];
  answer = answer;
  over = fault_if failed;
}

-- the entry is let go
abbrev pub frees : Table → List Deed → Bool → Stepped
frees table deeds failed = record {
  holder = None;
  table = table;
  deeds = deeds;
  answer = did.Free;
  over = fault_if failed;
}

-- the record of an attempt
abbrev pub record_of : Config → ℕ → ℕ → List ℕ → List Result1 → Command
record_of config moment id places results = Record (terms_of config) id places results moment

-- ---- holders

abbrev pub at_rest : Holder → Holder
at_rest h = record h { running = None }

-- the next batch is taken
abbrev pub without_first : Holder → Holder
without_first h = record { id = h.id; rest = drop 1 h.rest; running = None }

abbrev pub running_for : Holder → ℕ → List ℕ → Holder
running_for h child places =
    record {
      id = h.id;
      rest = drop 1 h.rest;
      running = Some (record { child = child; places = places });
    }

-- ---- a child

abbrev pub waits : Config → ℕ → Table → Holder → Attempt → Luck → Stepped
waits config moment table h r StillRuns =
    does table h (Polls h.id r.child polls.Runs ∷ []) did.Waits
waits config moment table h r (Exits status failed) =
    asks table (at_rest h) (Polls h.id r.child (polls.Over status) ∷ [])
    (record_of config moment h.id r.places (alike (ended_with status) r.places)) did.Recorded failed
waits config moment table h r (Loses failed) =
    asks table (at_rest h) (Polls h.id r.child polls.Lost ∷ [])
    (record_of config moment h.id r.places (alike device_fault r.places)) did.Recorded failed
waits config moment table h r luck = unfit table h

-- ---- a batch

-- what may be wanting before an attempt: memory; and the body, where a text is made
abbrev pub lacks : Bool → Table → Holder → RunStop → Stepped
lacks reads table h stop.NoMemory = halts table h (By stop.NoMemory)
lacks true table h stop.SpoolFault = halts table h (By stop.SpoolFault)
lacks reads table h cause = unfit table h

-- a batch is recorded, behind other deeds
abbrev pub records : Config → ℕ → Table → Holder → Batch → List Deed → List Result1 → Bool → Stepped
records config moment table h batch deeds results failed =
    asks table (without_first h) deeds (record_of config moment h.id batch.places results)
    did.Recorded failed

abbrev pub settles : Config → ℕ → Table → Holder → Batch → Result1 → Luck → Stepped
settles config moment table h batch result (Records failed) =
    records config moment table h batch [] (alike result batch.places) failed
settles config moment table h batch result (Lacks cause) = lacks false table h cause
settles config moment table h batch result luck = unfit table h

-- the text is longer than the mailer takes
abbrev pub is_large : Mailer → Letter → Bool
is_large mailer letter = not (nat_eq mailer.most 0) && nat_lt mailer.most (length letter.text)

abbrev pub where_large : Bool → Table → Holder → Stepped → Stepped
where_large true table h x = x
where_large false table h x = unfit table h

abbrev pub where_small : Bool → Table → Holder → Stepped → Stepped
where_small large table h x = where_large (not large) table h x

-- a text that is too large
abbrev pub outgrows : Config → ℕ → Table → Holder → Batch → Mailer → Letter → Bool → Stepped
outgrows config moment table h batch mailer letter failed =
    where_large (is_large mailer letter) table h
    (records config moment table h batch [] (alike too_large batch.places) failed)

-- a start that failed
abbrev pub fails : Config → ℕ → Table → Holder → Batch → Start → Launch → Bool → Stepped
fails config moment table h batch start (Given child missed) failed = unfit table h
fails config moment table h batch start launch failed =
    records config moment table h batch (Launches h.id batch.places start launch ∷ [])
    (alike device_fault batch.places) failed

abbrev pub starts : Config → ℕ → Table → Holder → Batch → Mailer → Luck → Stepped
starts config moment table h batch mailer (Outgrows letter failed) =
    outgrows config moment table h batch mailer letter failed
starts config moment table h batch mailer (Begins letter start child missed) =
    where_small (is_large mailer letter) table h
    (does table (running_for h child batch.places)
    (Launches h.id batch.places start (Given child missed) ∷ []) did.Began)
starts config moment table h batch mailer (Misses letter start launch failed) =
    where_small (is_large mailer letter) table h
    (fails config moment table h batch start launch failed)
starts config moment table h batch mailer (Lacks cause) = lacks true table h cause
starts config moment table h batch mailer luck = unfit table h

abbrev pub talks : Config → ℕ → Table → Holder → Batch → Mailer → Luck → Stepped
talks config moment table h batch mailer (Outgrows letter failed) =
    outgrows config moment table h batch mailer letter failed
talks config moment table h batch mailer (Ends letter talk failed) =
    where_small (is_large mailer letter) table h
    (records config moment table h batch (Delivers h.id batch.places talk ∷ []) talk.results failed)
talks config moment table h batch mailer (Lacks cause) = lacks true table h cause
talks config moment table h batch mailer luck = unfit table h

-- ---- the end

-- an id is wanting for one of the entries of these messages
abbrev pub lacks_ids : Table → List Back → Bool
lacks_ids table backs = nat_lt (MOST + 1) (table.next + sum_by (λ back. length back.cuts) backs)

-- these messages are sent for the entry
abbrev pub sends : Table → Holder → List Back → Command → Bool → Stepped
sends table h backs command failed =
    if lacks_ids table backs then halts table h (By stop.IdsSpent)
    else asks table h [] command did.Gave failed

-- what may be wanting before a message is sent: memory, and the files of its receiver; where the
-- body is read, that
abbrev pub misses : Bool → Table → Holder → RunStop → Stepped
misses reads table h stop.NoMemory = halts table h (By stop.NoMemory)
misses reads table h stop.FilesFault = halts table h (By stop.FilesFault)
misses true table h stop.SpoolFault = halts table h (By stop.SpoolFault)
misses reads table h cause = unfit table h

abbrev pub returns : Config → ℕ → Table → Holder → Luck → Stepped
returns config moment table h (Gives body rows bounce failed) =
    sends table h (bounce ∷ []) (Return (terms_of config) h.id (bounce ∷ []) moment) failed
returns config moment table h (Lacks cause) = misses true table h cause
returns config moment table h luck = unfit table h

abbrev pub buries : Config → ℕ → Table → Holder → Luck → Stepped
buries config moment table h (Dies failed) =
    sends table h [] (Return (terms_of config) h.id [] moment) failed
buries config moment table h (Lacks cause) = lacks false table h cause
buries config moment table h luck = unfit table h

abbrev pub warns : Config → ℕ → Table → Holder → Luck → Stepped
warns config moment table h (Tells rows warning failed) =
    sends table h (warning ∷ []) (Warn (terms_of config) h.id (warning ∷ []) moment) failed
warns config moment table h (Lacks cause) = misses false table h cause
warns config moment table h luck = unfit table h

abbrev pub finishes : Table → Holder → Luck → Stepped
finishes table h (Closes failed) = frees table (Files h.id ∷ Frees h.id ∷ []) failed
finishes table h luck = unfit table h

abbrev pub leaves : Table → Holder → Luck → Stepped
leaves table h LetsGo = frees table (Frees h.id ∷ []) false
leaves table h luck = unfit table h

-- ---- the step

abbrev pub acted : Config → ℕ → Table → Holder → Kind → Luck → Stepped
acted config moment table h (Waits r) luck = waits config moment table h r luck
acted config moment table h (Settles batch result) luck =
    settles config moment table h batch result luck
acted config moment table h (Starts batch mailer) luck =
    starts config moment table h batch mailer luck
acted config moment table h (Talks batch mailer peers) luck =
    talks config moment table h batch mailer luck
acted config moment table h Returns luck = returns config moment table h luck
acted config moment table h Buries luck = buries config moment table h luck
acted config moment table h Warns luck = warns config moment table h luck
acted config moment table h Finishes luck = finishes table h luck
acted config moment table h Leaves luck = leaves table h luck

-- the step of a holder at a moment, over a table
abbrev pub stepped : Config → Loaded → ℕ → Table → Holder → Luck → Stepped
stepped config maps moment table h luck =
    acted config moment table h
    (kind_of config maps moment (control_at h.id table.entries) h) luck
