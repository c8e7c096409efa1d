-- What reading the configuration file gives.
use Rattle.std.specs.Prelude.{◌≡◌, ℕ, List, Option, Some, None, option_map, IfSome, Result, Ok, Err}
use Rattle.mail_base.specs.declared.config.Config.{Config}
use Rattle.mail_base.specs.Histories.{Rose}
use Rattle.mail_edge.specs.Seen.{FileMap, FilesSeen, text_of}
use Rattle.cf_reader.specs.declared.fault.CfFault.{CfFault}
use Rattle.cf_reader.specs.declared.fault.CfFault.TheVariants as reasons
use Rattle.cf_reader.specs.Configuration.{configuration}
use Rattle.sendmail_run.specs.declared.fault.ConfigFault.{ConfigFault}
use Rattle.sendmail_run.specs.declared.fault.ConfigFault.TheVariants as faults

-- the configuration that the file of that name says, or its first faulty line; nothing where there
-- is no such file
abbrev pub said_by : FileMap → List ℕ → Option (Result Config CfFault)
said_by files name = option_map (configuration files) (text_of files name)

-- the file of that name says this; nothing is said where the files aren't told
abbrev pub Says : FilesSeen → List ℕ → Option (Result Config CfFault) → Type 0
Says files name said = IfSome files.map (λ map. said_by map name ≡ said)

-- why the file of that name gives no configuration
abbrev pub Refuses : List ℕ → FilesSeen → FilesSeen → ConfigFault → Type 0
Refuses name before after (faults.NoFile missing) = (missing ≡ name) × Says before name None
Refuses name before after faults.FilesFault = Rose before.faults after.faults
Refuses name before after (faults.Refused line fault) =
    Says before name (Some (Err (reasons.Refused line fault)))
Refuses name before after faults.NoMemory = Unit {0}

-- the configuration that the file of that name gives, or why it gives none
abbrev pub Begins : List ℕ → FilesSeen → FilesSeen → Result Config ConfigFault → Type 0
Begins name before after (Ok config) = Says before name (Some (Ok config))
Begins name before after (Err fault) = Refuses name before after fault
