-- The aliases and homes that a run which serves reads first: the alias files in their order, and
-- then the file of homes (Sendmail Installation and Operation Guide, "The Alias Database";
-- aliases(5); the file of homes, and that an alias file must be there, are own).
use Rattle.std.specs.Prelude.{◌≡◌, ℕ, List, [], ◌∷◌, Option, Some, None, option_map, slice_get, unwrap_or, IfSome, Result, Ok, Err, codes, refl}
use Rattle.std.specs.List.{filter_map, flat_map}
use Rattle.std.specs.Option.{option_and_then}
use Rattle.mail_base.specs.declared.config.Config.{Config}
use Rattle.mail_base.specs.Histories.{Rose}
use Rattle.mail_edge.specs.Seen.{FileMap, FilesSeen, text_of}
use Rattle.alias_expand.specs.declared.aliases.Alias.{Alias}
use Rattle.alias_expand.specs.Aliases.{file_aliases, first_refused}
use Rattle.alias_expand.specs.Homes.{homes_of}
use Rattle.sendmail_run.specs.declared.aliases.Names.{Names}
use Rattle.sendmail_run.specs.declared.fault.AliasesFault.{AliasesFault}
use Rattle.sendmail_run.specs.declared.fault.AliasesFault.TheVariants as faults

-- why an alias file with this text isn't taken: it isn't there, or its first line that is refused
abbrev pub fault_of : List ℕ → Option (List ℕ) → Option AliasesFault
fault_of name None = Some (faults.NoFile name)
fault_of name (Some text) = option_map (λ line. faults.Refused name line) (first_refused text)

-- what the lines of an alias file say, and of none nothing
abbrev pub lines_of : Option (List ℕ) → List Alias
lines_of text = file_aliases (unwrap_or text [])

-- why the file of that name isn't taken
abbrev pub fault_in : FileMap → List ℕ → Option AliasesFault
fault_in files name = fault_of name (text_of files name)

-- the fault of the first of the files that isn't taken
abbrev pub first_fault : FileMap → List (List ℕ) → Option AliasesFault
first_fault files names = slice_get (filter_map (fault_in files) names) 0

-- what the lines of the file of that name say
abbrev pub said_in : FileMap → List ℕ → List Alias
said_in files name = lines_of (text_of files name)

-- what the lines of files say, in order
abbrev pub lines_in : FileMap → List (List ℕ) → List Alias
lines_in files names = flat_map (said_in files) names

-- the text of the file of homes, which is empty where none is named or there is no such file
abbrev pub homes_in : FileMap → Option (List ℕ) → List ℕ
homes_in files name = unwrap_or (option_and_then (text_of files) name) []

-- the aliases and homes of a configuration over files
abbrev pub names_of : FileMap → Config → Names
names_of files config =
    record {
      aliases = lines_in files config.options.alias_files;
      homes = homes_of (homes_in files config.options.homes_file);
    }

module _ {V : Type 0} where
  -- a value, or a fault
  abbrev pub unless_fault : Option AliasesFault → V → Result V AliasesFault
  unless_fault None value = Ok value
  unless_fault (Some fault) value = Err fault

-- the aliases and homes of a configuration, or the fault of its first alias file that isn't taken
abbrev pub names_by : FileMap → Config → Result Names AliasesFault
names_by files config =
    unless_fault (first_fault files config.options.alias_files) (names_of files config)

-- the files give this; nothing is said where they aren't told
abbrev pub GiveNames : FilesSeen → Config → Result Names AliasesFault → Type 0
GiveNames files config given = IfSome files.map (λ map. names_by map config ≡ given)

-- the aliases and homes that files give, or why they give none
abbrev pub LoadsNames : Config → FilesSeen → FilesSeen → Result Names AliasesFault → Type 0
LoadsNames config before after (Ok names) = GiveNames before config (Ok names)
LoadsNames config before after (Err (faults.NoFile name)) =
    GiveNames before config (Err (faults.NoFile name))
LoadsNames config before after (Err (faults.Refused name line)) =
    GiveNames before config (Err (faults.Refused name line))
LoadsNames config before after (Err faults.FilesFault) = Rose before.faults after.faults
LoadsNames config before after (Err faults.NoMemory) = Unit {0}

-- a file whose second line is refused
abbrev two_lines : FileMap
two_lines = (codes "/b", codes "# x\na b\n") ∷ []

example :
    (first_fault two_lines (codes "/b" ∷ codes "/c" ∷ []) ≡ Some (faults.Refused (codes "/b") 2))
    × (first_fault two_lines (codes "/c" ∷ codes "/b" ∷ []) ≡ Some (faults.NoFile (codes "/c")))
    × (homes_in two_lines None ≡ []) × (homes_in two_lines (Some (codes "/c")) ≡ [])
example = (refl, refl, refl, refl)
