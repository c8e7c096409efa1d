-- How a run ends, what stays as it was, and where the whole work of a mode is done (Sendmail
-- Installation and Operation Guide, "Command Line Flags"; the outcomes are own).
use Rattle.std.specs.Prelude.{◌≡◌, ℕ, ◌^◌, ◌<◌, ◌≤◌, List, length, Option, Some, None, Ok, Err, ◌⊎◌}
use Rattle.mail_base.specs.declared.config.Config.{Config}
use Rattle.mail_base.specs.Histories.{Rose}
use Rattle.mail_edge.specs.Seen.{FileMap}
use Rattle.mail_submit.specs.declared.words.SubmitWords.{SubmitWords}
use Rattle.map_tables.specs.Answers.{Loaded}
use Rattle.mail_core.specs.Plans.{Serve}
use Rattle.queue_table.specs.Directories.{all_dirs, terms_of}
use Rattle.sendmail_run.specs.declared.address_test.TestEnd.{TestEnd}
use Rattle.sendmail_run.specs.declared.aliases.Names.{Names}
use Rattle.command_line.specs.declared.mode.Job.{Job}
use Rattle.command_line.specs.declared.mode.Job.TheVariants.{Test, Session, Daemon, Run, List as Listing, Submit}
use Rattle.command_line.specs.declared.mode.Mode.{Mode}
use Rattle.command_line.specs.declared.fault.WordFault.{WordFault}
use Rattle.sendmail_run.specs.declared.fault.AliasesFault.{AliasesFault}
use Rattle.sendmail_run.specs.declared.fault.ConfigFault.{ConfigFault}
use Rattle.sendmail_run.specs.declared.fault.MapsFault.{MapsFault}
use Rattle.sendmail_run.specs.declared.list_mode.ListEnd.{ListEnd}
use Rattle.sendmail_run.specs.declared.submit_mode.SubmitModeEnd.{SubmitModeEnd}
use Rattle.sendmail_run.specs.declared.outcome.Outcome.{Outcome}
use Rattle.sendmail_run.specs.declared.outcome.Outcome.TheVariants as ends
use Rattle.sendmail_run.specs.declared.serving_mode.ServeEnd.{ServeEnd}
use Rattle.sendmail_run.specs.declared.task.Task.{Task}
use Rattle.sendmail_run.specs.declared.task.Task.TheVariants as tasks
use Rattle.sendmail_run.specs.AliasFiles.{LoadsNames, first_fault}
use Rattle.sendmail_run.specs.Beginning.{Begins, said_by}
use Rattle.command_line.specs.CommandLines.{Fails, IsCommandLine}
use Rattle.sendmail_run.specs.Listings.{Lists}
use Rattle.sendmail_run.specs.Devices.{Streams, World, core_of, streams_of}
use Rattle.sendmail_run.specs.MapFiles.{Loads, first_missing}
use Rattle.sendmail_run.specs.Outcomes.{of_aliases, of_config, of_list, of_maps, of_serving, of_submitting, of_test, of_words}
use Rattle.sendmail_run.specs.Printing.{basis}
use Rattle.sendmail_run.specs.Rises.{Counts}
use Rattle.sendmail_run.specs.Serving.{IsLeftAlone, Serves, grounds_of, judge_by, site_of}
use Rattle.sendmail_run.specs.Submitting.{EndsSo}
use Rattle.sendmail_run.specs.Tasks.{plan_of}
use Rattle.sendmail_run.specs.Testing.{Tests}

-- ---- how a run ends

-- nothing was taken and nothing was written
pub record IsIdle (before after : Streams) : Type 0 where
  pub input : after.input ≡ before.input
  pub output : after.output ≡ before.output

-- nothing was taken, written or served
pub record IsUntouched (before after : World) : Type 0 where
  pub idle : IsIdle (streams_of before) (streams_of after)
  pub alone : IsLeftAlone (core_of before) (core_of after)

-- the words were refused, and the files left alone too
pub record EndsAtWords (words : List (List ℕ)) (before after : World)
    (outcome : Outcome) : Type 0 where
  pub fault : WordFault
  pub told : outcome ≡ of_words fault
  pub fails : Fails fault words
  pub untouched : IsUntouched before after
  pub files : after.files ≡ before.files

-- the words were taken, and the file that they name gave no configuration
pub record EndsAtFile (words : List (List ℕ)) (before after : World)
    (outcome : Outcome) : Type 0 where
  pub mode : Mode
  pub said : IsCommandLine words mode
  pub fault : ConfigFault
  pub told : outcome ≡ of_config fault
  pub begins : Begins mode.file before.files after.files (Err fault)
  pub untouched : IsUntouched before after

-- the files of maps gave none, and nothing was taken, written or served
pub record EndsAtMaps (config : Config) (before after : World) (outcome : Outcome) : Type 0 where
  pub fault : MapsFault
  pub told : outcome ≡ of_maps fault
  pub loads : Loads config before.files after.files (Err fault)
  pub untouched : IsUntouched before after

-- the files of maps gave these, and with them the work was done
pub record HasMaps (config : Config) (before after : World) (Work : Loaded → Type 0)
    : Type 0 where
  pub maps : Loaded
  pub loads : Loads config before.files after.files (Ok maps)
  pub work : Work maps

-- address test mode did its work with these maps, and left all other devices alone
pub record HasTested (config : Config) (maps : Loaded) (before after : World)
    (outcome : Outcome) : Type 0 where
  pub how : TestEnd
  pub told : outcome ≡ of_test how
  pub tests : Tests (basis config maps) (streams_of before) (streams_of after) how
  pub alone : IsLeftAlone (core_of before) (core_of after)

-- the files of aliases and homes gave none, and nothing was taken, written or served
pub record EndsAtAliases (config : Config) (before after : World) (outcome : Outcome)
    : Type 0 where
  pub fault : AliasesFault
  pub told : outcome ≡ of_aliases fault
  pub loads : LoadsNames config before.files after.files (Err fault)
  pub untouched : IsUntouched before after

-- a mode that serves had its aliases and homes and did its task, with these maps, and left the
-- input and the output alone
pub record HasServed (task : Task) (config : Config) (maps : Loaded) (before after : World)
    (outcome : Outcome) : Type 0 where
  pub names : Names
  pub loads : LoadsNames config before.files after.files (Ok names)
  pub how : ServeEnd
  pub told : outcome ≡ of_serving how
  pub serves : Serves (judge_by (grounds_of config maps names) before.files) after.files.faults
      (site_of config maps (plan_of task)) task (core_of before) (core_of after) how
  pub idle : IsIdle (streams_of before) (streams_of after)

-- how a mode that serves ends, by its task
abbrev pub WorksAt : Task → Config → World → World → Outcome → Type 0
WorksAt task config before after outcome = EndsAtMaps config before after outcome
    ⊎ HasMaps config before after (λ maps. EndsAtAliases config before after outcome
    ⊎ HasServed task config maps before after outcome)

-- a mode that takes a message of a program had its aliases and homes and did so, with these maps, and
-- left the output, the floor, spawner and dialer alone
pub record HasSubmitted (words : SubmitWords) (config : Config) (maps : Loaded)
    (before after : World) (outcome : Outcome) : Type 0 where
  pub names : Names
  pub loads : LoadsNames config before.files after.files (Ok names)
  pub how : SubmitModeEnd
  pub told : outcome ≡ of_submitting how
  pub ends : EndsSo (grounds_of config maps names) (site_of config maps (Serve None)) words before
      after how
  pub output : after.output ≡ before.output
  pub floor : after.floor ≡ before.floor
  pub hands : after.hands ≡ before.hands

-- how such a mode ends
abbrev pub SubmitsAt : SubmitWords → Config → World → World → Outcome → Type 0
SubmitsAt words config before after outcome = EndsAtMaps config before after outcome
    ⊎ HasMaps config before after (λ maps. EndsAtAliases config before after outcome
    ⊎ HasSubmitted words config maps before after outcome)

-- the queue was listed, and all devices but the spool and the output left alone
pub record HasListed (config : Config) (before after : World) (outcome : Outcome) : Type 0 where
  pub how : ListEnd
  pub told : outcome ≡ of_list how
  pub lists : Lists (all_dirs (terms_of config)) before.spool after.spool before.output
      after.output how
  pub input : after.input ≡ before.input
  pub floor : after.floor ≡ before.floor
  pub clock : after.clock ≡ before.clock
  pub hands : after.hands ≡ before.hands

-- how the work of a mode ends
abbrev pub Works : Job → Config → World → World → Outcome → Type 0
Works Test config before after outcome = EndsAtMaps config before after outcome
    ⊎ HasMaps config before after (λ maps. HasTested config maps before after outcome)
Works Session config before after outcome = WorksAt tasks.Session config before after outcome
Works (Daemon wait) config before after outcome =
    WorksAt (tasks.Daemon wait) config before after outcome
Works (Run group) config before after outcome =
    WorksAt (tasks.Run group) config before after outcome
Works Listing config before after outcome = HasListed config before after outcome
Works (Submit words) config before after outcome = SubmitsAt words config before after outcome

-- the words were taken, the file that they name is a configuration, and the mode's work was done
pub record EndsAtWork (words : List (List ℕ)) (before after : World)
    (outcome : Outcome) : Type 0 where
  pub mode : Mode
  pub said : IsCommandLine words mode
  pub config : Config
  pub begins : Begins mode.file before.files after.files (Ok config)
  pub works : Works mode.job config before after outcome

-- a run ends at the first of its steps that refuses, or with its mode's work
abbrev pub Ends : List (List ℕ) → World → World → Outcome → Type 0
Ends words before after outcome = EndsAtWords words before after outcome
    ⊎ EndsAtFile words before after outcome ⊎ EndsAtWork words before after outcome

-- ---- what stays

-- the files stay as they are; no count of faults falls, and one that has risen ended the run with
-- that device's fault, but those of spawner and dialer, which end none
pub record Stays (before after : World) (outcome : Outcome) : Type 0 where
  pub map : after.files.map ≡ before.files.map
  pub files : Counts ends.FilesFault outcome before.files.faults after.files.faults
  pub input : Counts ends.ReadFault outcome before.input.faults after.input.faults
  pub output : Counts ends.WriteFault outcome before.output.faults after.output.faults
  pub floor : Counts ends.FloorFault outcome before.floor.faults after.floor.faults
  pub spool : Counts ends.SpoolFault outcome before.spool.faults after.spool.faults
  pub spawner : before.hands.spawner.faults ≤ after.hands.spawner.faults
  pub dialer : before.hands.dialer.faults ≤ after.hands.dialer.faults

-- ---- where the whole work of a mode is done

-- the input is told, and fewer than 2^32 bytes come
pub record IsShort (left : Option (List ℕ)) : Type 0 where
  pub bytes : List ℕ
  pub told : left ≡ Some bytes
  pub few : length bytes < 2 ^ 32

-- what a mode wants, under a configuration over files: address test mode that no file of its maps
-- is missing, and a short input; the modes that serve, and the one that takes a message of a
-- program, that none is missing and that each alias file is taken; and the listing nothing. Each
-- takes any queue.
abbrev pub Finds : Job → FileMap → Config → World → Type 0
Finds Test map config before = (first_missing map config ≡ None) × IsShort before.input.left
Finds Session map config before =
    (first_missing map config ≡ None) × (first_fault map config.options.alias_files ≡ None)
Finds (Daemon wait) map config before =
    (first_missing map config ≡ None) × (first_fault map config.options.alias_files ≡ None)
Finds (Run group) map config before =
    (first_missing map config ≡ None) × (first_fault map config.options.alias_files ≡ None)
Finds Listing map config before = Unit {0}
Finds (Submit words) map config before =
    (first_missing map config ≡ None) × (first_fault map config.options.alias_files ≡ None)

-- the words say this mode, they, the file and its lines are all taken, of files that are told, and
-- the mode finds what it wants
pub record IsReady (words : List (List ℕ)) (before : World) (job : Job) : Type 0 where
  pub mode : Mode
  pub said : IsCommandLine words mode
  pub does : mode.job ≡ job
  pub map : FileMap
  pub told : before.files.map ≡ Some map
  pub config : Config
  pub read : said_by map mode.file ≡ Some (Ok config)
  pub finds : Finds job map config before

-- no device of a mode failed; a send may have, and what a runner started or dialled. A run over the
-- queue has no floor
abbrev pub NoneFailed : Job → World → World → Type 0
NoneFailed Test before after = ¬ (Rose before.input.faults after.input.faults)
    × ¬ (Rose before.output.faults after.output.faults)
NoneFailed Session before after = ¬ (Rose before.floor.faults after.floor.faults)
    × ¬ (Rose before.spool.faults after.spool.faults)
NoneFailed (Daemon wait) before after = ¬ (Rose before.floor.faults after.floor.faults)
    × ¬ (Rose before.spool.faults after.spool.faults)
NoneFailed (Run group) before after = ¬ (Rose before.spool.faults after.spool.faults)
NoneFailed Listing before after = ¬ (Rose before.spool.faults after.spool.faults)
    × ¬ (Rose before.output.faults after.output.faults)
NoneFailed (Submit words) before after = ¬ (Rose before.spool.faults after.spool.faults)
    × ¬ (Rose before.input.faults after.input.faults)

-- neither the files nor a device of the mode failed
pub record IsSound (job : Job) (before after : World) : Type 0 where
  pub files : ¬ (Rose before.files.faults after.files.faults)
  pub own : NoneFailed job before after

-- a message of a program was read, and refused as it is
abbrev pub IsRefused : Outcome → Type 0
IsRefused (ends.MessageRefused code) = Unit {0}
IsRefused ends.NoRecipient = Unit {0}
IsRefused (ends.BadRecipient place error) = Unit {0}
IsRefused outcome = ⊥

-- the whole work of a mode was done, or memory ran out; in a mode that serves 2^60 turns or the ids
-- may have been spent; in one that takes a message of a program this was refused, or the ids spent
abbrev pub IsWhole : Job → Outcome → Type 0
IsWhole Test outcome = (outcome ≡ ends.Done) ⊎ (outcome ≡ ends.NoMemory)
IsWhole Session outcome = (outcome ≡ ends.Done) ⊎ (outcome ≡ ends.NoMemory)
    ⊎ (outcome ≡ ends.IdsSpent) ⊎ (outcome ≡ ends.TurnsSpent (2 ^ 60))
IsWhole (Daemon wait) outcome = (outcome ≡ ends.Done) ⊎ (outcome ≡ ends.NoMemory)
    ⊎ (outcome ≡ ends.IdsSpent) ⊎ (outcome ≡ ends.TurnsSpent (2 ^ 60))
IsWhole (Run group) outcome = (outcome ≡ ends.Done) ⊎ (outcome ≡ ends.NoMemory)
    ⊎ (outcome ≡ ends.IdsSpent) ⊎ (outcome ≡ ends.TurnsSpent (2 ^ 60))
IsWhole Listing outcome = (outcome ≡ ends.Done) ⊎ (outcome ≡ ends.NoMemory)
IsWhole (Submit words) outcome = (outcome ≡ ends.Done) ⊎ (outcome ≡ ends.NoMemory)
    ⊎ (outcome ≡ ends.IdsSpent) ⊎ IsRefused outcome

-- a run that is ready for its mode, and in which no device of it fails, does the mode's whole work
abbrev pub Completes : List (List ℕ) → World → World → Outcome → Type 0
Completes words before after outcome =
    (job : Job) → IsReady words before job → IsSound job before after → IsWhole job outcome
