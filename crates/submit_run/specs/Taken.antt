-- A message that is handed over is taken into the queue by one command, or not (RFC 5321, section
-- 4.2.5).
use Rattle.std.specs.Prelude.{◌≡◌, ◌⊎◌, ℕ, ◌+◌, ◌≤◌, List, [], ◌∷◌, Bool, true, false}
use Rattle.mail_base.specs.Histories.{Gains, Rose}
use Rattle.mail_base.specs.declared.config.Config.{Config}
use Rattle.mail_base.specs.declared.message.Message.{Message}
use Rattle.mail_edge.specs.Seen.{ClockSeen}
use Rattle.mail_made.specs.Messages.{IsTakenIn, Made, accept_under}
use Rattle.mail_made.specs.Moments.{moment_of}
use Rattle.mail_made.specs.Planned.{LacksIds}
use Rattle.map_tables.specs.Answers.{Loaded}
use Rattle.queue_table.specs.Calls.{AreDirs, HoldsTable, Tallies, store}
use Rattle.queue_table.specs.Commands.{Command, after}
use Rattle.queue_table.specs.Directories.{terms_of}
use Rattle.queue_table.specs.declared.table.Table.{Table as Kept}
use Rattle.spool_disk.specs.Spooled.{Spooled}
use Rattle.spool_store.specs.Entries.{Table}
use Rattle.spool_store.specs.Moves.{Moves}
use Rattle.spool_store.specs.Parts.{IsEitherTable}
use Rattle.spool_store.specs.Settled.{IsSettled, StandsFor}
use Rattle.submit_run.specs.declared.end.SubmitEnd.{SubmitEnd}
use Rattle.submit_run.specs.declared.end.SubmitEnd.TheVariants as ends

-- a table may take a message in: it is of the configuration, each group's directory is one of its
-- store's, no call on it failed, and its store has what the files have that are told
pub record MayTake (config : Config) (kept : Kept) (spooled : Spooled) : Type 0 where
  pub terms : kept.terms ≡ terms_of config
  pub dirs : AreDirs kept.terms (store kept).dirs
  pub whole : (store kept).broken ≡ false
  pub tallied : Tallies kept spooled

-- ---- the moment

-- the clock was read once, and said this
pub record IsReadOnce (before after : ClockSeen) (reading : ℕ) : Type 0 where
  pub told : Gains before.told after.told (reading ∷ [])
  pub readings : after.readings ≡ before.readings + 1

abbrev pub IsReadAtMostOnce : ClockSeen → ClockSeen → Type 0
IsReadAtMostOnce before after =
    (after ≡ before) ⊎ ((reading : ℕ) × IsReadOnce before after reading)

-- ---- the command

-- the one command that takes a message in, by what is made of it
abbrev pub command_of : Config → ℕ → Message → Made → Command
command_of config moment message made = accept_under (terms_of config) moment message made

module _ (config : Config) (maps : Loaded) (table : Table) (message : Message) (c d : ClockSeen) where
  -- the clock was read once, and at this moment the message is to be taken in
  pub record IsAskedAt (moment : ℕ) : Type 0 where
    pub reading : ℕ
    pub clock : IsReadOnce c d reading
    pub moment_is : moment ≡ moment_of reading

  -- it was taken in by one command: the files lead from those of the table to those of the table
  -- with it, and a stop at any moment leaves one of both
  pub record IsStored (dirs : List (List ℕ)) (a b : Spooled) (kept : Kept) : Type 0 where
    pub moment : ℕ
    pub asked : IsAskedAt moment
    pub made : Made
    pub taken : IsTakenIn config maps moment message table.next made
    pub holds : HoldsTable kept (after table (command_of config moment message made))
    pub moves : Moves a b (StandsFor dirs table)
        (IsSettled dirs (after table (command_of config moment message made)))
        (IsEitherTable dirs table (after table (command_of config moment message made)))

  -- the spool failed as it was taken in: the files are those of the table without it or with it
  pub record IsBroken (dirs : List (List ℕ)) (a b : Spooled) : Type 0 where
    pub moment : ℕ
    pub asked : IsAskedAt moment
    pub made : Made
    pub taken : IsTakenIn config maps moment message table.next made
    pub moves : Moves a b (StandsFor dirs table)
        (IsEitherTable dirs table (after table (command_of config moment message made)))
        (IsEitherTable dirs table (after table (command_of config moment message made)))
    pub rose : Rose a.faults b.faults

  -- an id is wanting for one of its parts
  pub record IsSpent : Type 0 where
    pub moment : ℕ
    pub asked : IsAskedAt moment
    pub lacks : LacksIds config maps moment table.next message

-- ---- what else an end says

-- whether the spool was asked to take the message in
abbrev pub is_committed : SubmitEnd → Bool
is_committed ends.Done = true
is_committed ends.SpoolFault = true
is_committed end = false

-- whether the files failed that aliases name
abbrev pub is_files_fault : SubmitEnd → Bool
is_files_fault ends.FilesFault = true
is_files_fault end = false

-- a count never falls, and rises only where the run ends with that fault
pub record Counts (fault end : SubmitEnd) (before after : ℕ) : Type 0 where
  pub later : before ≤ after
  pub rises : (end ≡ fault) ⊎ (after ≡ before)
