-- The maps that a mode reads before its work: the files of K lines in their order, and then the
-- host table (Sendmail Installation and Operation Guide, K; hosts(5); that a file without `-o` must
-- be there is own).
use Rattle.std.specs.Prelude.{◌≡◌, List, [], Bool, ◌&&◌, not, Option, Some, None, option_map, is_none, unwrap_or, IfSome, Result, Ok, Err, ℕ}
use Rattle.std.specs.List.{find, filter_map}
use Rattle.mail_base.specs.declared.config.Config.{Config}
use Rattle.mail_base.specs.Histories.{Rose}
use Rattle.mail_edge.specs.Seen.{FileMap, FilesSeen, text_of}
use Rattle.map_tables.specs.declared.files.MapFile.{MapFile}
use Rattle.map_tables.specs.declared.named.Named.{Named}
use Rattle.map_tables.specs.Answers.{Loaded, loaded}
use Rattle.map_tables.specs.Tables.{wanted_files}
use Rattle.sendmail_run.specs.declared.fault.MapsFault.{MapsFault}
use Rattle.sendmail_run.specs.declared.fault.MapsFault.TheVariants as faults

-- a file with the text that was found
abbrev pub named : MapFile → Option (List ℕ) → Option Named
named file text = option_map (λ bytes. record { name = file.name; bytes = bytes }) text

-- no text was found, and the file may not be absent
abbrev pub lacks : MapFile → Option (List ℕ) → Bool
lacks file text = not file.optional && is_none text

-- a file, where it is there
abbrev pub found_of : FileMap → MapFile → Option Named
found_of files file = named file (text_of files file.name)

-- those that are there, in order
abbrev pub found_among : FileMap → List MapFile → List Named
found_among files wanted = filter_map (found_of files) wanted

-- a file isn't there, and may not be absent
abbrev pub is_missing : FileMap → MapFile → Bool
is_missing files file = lacks file (text_of files file.name)

-- the first file of a configuration's maps that is missing
abbrev pub first_missing : FileMap → Config → Option MapFile
first_missing files config = find (is_missing files) (wanted_files config.maps)

-- the text of the host table; one that isn't there is empty
abbrev pub hosts_in : FileMap → List ℕ → List ℕ
hosts_in files name = unwrap_or (text_of files name) []

-- the maps of a configuration over files
abbrev pub maps_of : FileMap → Config → Loaded
maps_of files config = loaded config.maps (found_among files (wanted_files config.maps))
    (hosts_in files config.options.hosts_file)

module _ {V : Type 0} where
  -- a value, or the name of a file that is missing
  abbrev pub unless_missing : Option MapFile → V → Result V (List ℕ)
  unless_missing None value = Ok value
  unless_missing (Some file) value = Err file.name

-- the maps of a configuration, or the name of the first file that is missing
abbrev pub maps_by : FileMap → Config → Result Loaded (List ℕ)
maps_by files config = unless_missing (first_missing files config) (maps_of files config)

-- the files give this; nothing is said where they aren't told
abbrev pub GiveMaps : FilesSeen → Config → Result Loaded (List ℕ) → Type 0
GiveMaps files config given = IfSome files.map (λ map. maps_by map config ≡ given)

-- why files give no maps
abbrev pub LackMaps : Config → FilesSeen → FilesSeen → MapsFault → Type 0
LackMaps config before after (faults.NoFile name) = GiveMaps before config (Err name)
LackMaps config before after faults.FilesFault = Rose before.faults after.faults
LackMaps config before after faults.NoMemory = Unit {0}

-- the maps that files give, or why they give none
abbrev pub Loads : Config → FilesSeen → FilesSeen → Result Loaded MapsFault → Type 0
Loads config before after (Ok maps) = GiveMaps before config (Ok maps)
Loads config before after (Err fault) = LackMaps config before after fault
