-- O lines, by what follows the letter (Sendmail Installation and Operation Guide, "O: Set Option").
use Rattle.std.specs.Prelude.{◌≡◌, ℕ, Bool, true, false, not, ◌&&◌, ◌||◌, ◌==◌, if◌then◌else◌, is_some, fold, List, [], ◌∷◌, ◌++◌, length, map, Option, None, Some, unwrap_or, bytes_eq, codes, refl}
use Rattle.std.specs.List.{list_any, list_all}
use Rattle.mail_base.specs.Configs.{default_options}
use Rattle.mail_base.specs.declared.options.DaemonPort.{DaemonPort as Port}
use Rattle.mail_base.specs.declared.options.Options.{Options}
use Rattle.cf_values.specs.Times.{rest_value}
use Rattle.cf_reader.specs.declared.fault.Fault.{Fault}
use Rattle.cf_reader.specs.declared.fault.Fault.TheVariants.{BadOption, OperatorsLate}
use Rattle.cf_reader.specs.declared.fields.Field.{Field}
use Rattle.cf_reader.specs.declared.setting.Setting.{Setting}
use Rattle.cf_reader.specs.declared.setting.Setting.TheVariants.{Number, Time, Word, AliasFile, DaemonPort}
use Rattle.cf_reader.specs.declared.setting.NumberOption.{NumberOption}
use Rattle.cf_reader.specs.declared.setting.NumberOption.TheVariants.{MaxDaemonSessions, MaxHopCount, MaxAliasRecursion, MaxMessageSize, MaxRecipients, RecipientFactor, ClassFactor, RetryFactor}
use Rattle.cf_reader.specs.declared.setting.TimeOption.{TimeOption}
use Rattle.cf_reader.specs.declared.setting.TimeOption.TheVariants.{QueueReturn, QueueWarn, MinQueueAge}
use Rattle.cf_reader.specs.declared.setting.WordOption.{WordOption}
use Rattle.cf_reader.specs.declared.setting.WordOption.TheVariants.{QueueDirectory, HostsFile, HomesFile, OperatorChars, DoubleBounceAddress}
use Rattle.cf_reader.specs.Reads.{first_fault}
use Rattle.cf_reader.specs.Cuts.{cut_at}
use Rattle.mail_base.specs.Whites.{stripped}
use Rattle.cf_reader.specs.Fields.{split_at, pieces_of, plain, fields_of, letter_of}
use Rattle.cf_reader.specs.Values.{number_in, time_in, most_option, if_some}
use Rattle.cf_reader.specs.Settings.{setting_named, unit_of}

-- ---- DaemonPortOptions

-- a port: `smtp`, `submission`, or a number of at most 65,535
abbrev pub port_in : List ℕ → Option ℕ
port_in value = if bytes_eq value (codes "smtp") then Some 25
    else if bytes_eq value (codes "submission") then Some 587 else number_in 65_535 value

-- a field that isn't Port (80), or is one with a port
abbrev pub is_good_field : Field → Bool
is_good_field field = not (letter_of field == 80) || is_some (port_in field.value)

-- a place with a field more, which is Port (80), Addr (65), or ignored
abbrev pub with_field : Port → Field → Port
with_field port field =
    if letter_of field == 80
    then record { port = unwrap_or (port_in field.value) 25; address = port.address }
    else if letter_of field == 65 then record { port = port.port; address = if_some field.value }
    else port

-- the port 25 at every address
abbrev pub first_port : Port
first_port = record { port = 25; address = None }

-- where the daemon listens, or none where a Port has no port
abbrev pub daemon_port : List ℕ → Option Port
daemon_port value = if list_all is_good_field (fields_of value)
    then Some (fold with_field first_port (fields_of value)) else None

-- ---- AliasFile

-- a path by what stands before and behind its first colon
abbrev pub bare_by : List ℕ → Option (List ℕ × List ℕ) → List ℕ
bare_by path None = path
bare_by path (Some parts) = if list_any (λ b. b == 47) parts.0 then path else stripped parts.1

-- a path without its class: what stands before the first colon (58), if there is no slash (47) in
-- it
abbrev pub bare_path : List ℕ → List ℕ
bare_path path = bare_by path (cut_at 58 path)

-- the path of one piece of AliasFile
abbrev pub path_of : List ℕ → List ℕ
path_of piece = bare_path (plain piece)

-- the paths between commas
abbrev pub paths_of : List ℕ → List (List ℕ)
paths_of value = map path_of (pieces_of value)

-- ---- values

-- a value is in its option's grammar
abbrev pub is_valid : Setting → List ℕ → Bool
is_valid (Number option) value = is_some (number_in most_option value)
is_valid (Time option) value = is_some (time_in (unit_of option) value)
is_valid (Word QueueDirectory) value = not (list_any (λ b. b == 42) value)
is_valid (Word DoubleBounceAddress) value = not (length value == 0)
is_valid (Word option) value = true
is_valid AliasFile value = true
is_valid DaemonPort value = is_some (daemon_port value)

-- an option with a number is set
abbrev pub with_number : NumberOption → ℕ → Options → Options
with_number MaxDaemonSessions n options = record options { max_daemon_sessions = n }
with_number MaxHopCount n options = record options { max_hop_count = n }
with_number MaxAliasRecursion n options = record options { max_alias_recursion = n }
with_number MaxMessageSize n options = record options { max_message_size = n }
with_number MaxRecipients n options = record options { max_recipients_per_message = n }
with_number RecipientFactor n options = record options { recipient_factor = n }
with_number ClassFactor n options = record options { class_factor = n }
with_number RetryFactor n options = record options { retry_factor = n }

-- an option with a time is set
abbrev pub with_time : TimeOption → ℕ → Options → Options
with_time QueueReturn n options = record options { queue_return = n }
with_time QueueWarn n options = record options { queue_warn = Some n }
with_time MinQueueAge n options = record options { min_queue_age = n }

-- an option with a text is set
abbrev pub with_word : WordOption → List ℕ → Options → Options
with_word QueueDirectory value options = record options { queue_directory = value }
with_word HostsFile value options = record options { hosts_file = value }
with_word HomesFile value options = record options { homes_file = Some value }
with_word OperatorChars value options = record options { operator_chars = value }
with_word DoubleBounceAddress value options = record options { double_bounce_address = value }

-- the options with an option set to a value in its grammar; alias files are added behind those
-- that are there
abbrev pub with_setting : Setting → List ℕ → Options → Options
with_setting (Number option) value options =
    with_number option (unwrap_or (number_in most_option value) 0) options
with_setting (Time option) value options =
    with_time option (unwrap_or (time_in (unit_of option) value) 0) options
with_setting (Word option) value options = with_word option value options
with_setting AliasFile value options =
    record options { alias_files = options.alias_files ++ paths_of value }
with_setting DaemonPort value options =
    record options { daemon_port = unwrap_or (daemon_port value) options.daemon_port }

-- ---- lines

-- the option that a line names: a space (32) stands first, then a name, and behind `=` (61) a
-- value, which may be absent
abbrev pub option_named : List ℕ → Option Setting
option_named [] = None
option_named (b ∷ text) = if b == 32 then setting_named (stripped (split_at 61 text).0) else None

-- the value of an O line
abbrev pub value_of : List ℕ → List ℕ
value_of text = stripped (split_at 61 text).1

-- DaemonPortOptions is set once
abbrev pub once : Bool → Option Setting → Option Setting
once listens (Some DaemonPort) = if listens then None else Some DaemonPort
once listens setting = setting

-- the option that a line sets, or none where the line is ignored with a warning; it is told
-- whether DaemonPortOptions was set before
abbrev pub setting_of : Bool → List ℕ → Option Setting
setting_of listens text = once listens (option_named text)

-- the option is known, and the value isn't valid for it
abbrev pub takes_badly : Option Setting → List ℕ → Bool
takes_badly None value = false
takes_badly (Some setting) value = not (is_valid setting value)

-- the value isn't in the grammar of the option that is named
abbrev pub is_bad_option : List ℕ → Bool
is_bad_option text = takes_badly (option_named text) (value_of text)

-- the option is OperatorChars
abbrev pub is_operators : Option Setting → Bool
is_operators (Some (Word OperatorChars)) = true
is_operators setting = false

-- OperatorChars is named, and an S or R line came before
abbrev pub is_late : Bool → List ℕ → Bool
is_late late text = late && is_operators (option_named text)

-- the first fault of an O line, where it is told whether an S or R line came before
abbrev pub fault_of_option : Bool → List ℕ → Option Fault
fault_of_option late text =
    first_fault ((BadOption, is_bad_option text) ∷ (OperatorsLate, is_late late text) ∷ [])

-- a known option is set
abbrev pub options_with : Option Setting → List ℕ → Options → Options
options_with None value options = options
options_with (Some setting) value options = with_setting setting value options

-- the options after an O line without a fault
abbrev pub options_after : Bool → List ℕ → Options → Options
options_after listens text options = options_with (setting_of listens text) (value_of text) options

example :
    (options_after false (codes " Timeout.QueueReturn = 1d") default_options
    ≡ record default_options { queue_return = 86400 })
    × (options_after false (codes " AliasFile=dbm:/etc/a, /etc/b:c") default_options
    ≡ record default_options { alias_files = codes "/etc/a" ∷ codes "/etc/b:c" ∷ [] })
    × (options_after false (codes " DaemonPortOptions=Name=MTA, Port=submission, Addr=127.0.0.1")
    default_options ≡ record default_options {
      daemon_port = record { port = 587; address = Some (codes "127.0.0.1") };
    })
    × (fault_of_option false (codes " MaxHopCount=x") ≡ Some BadOption)
    × (fault_of_option true (codes " OperatorChars=.") ≡ Some OperatorsLate)
    × (fault_of_option false (codes " DaemonPortOptions=Port=x") ≡ Some BadOption)
    × (setting_of false (codes "QueueDirectory=/q") ≡ None)
    × (setting_of true (codes " DaemonPortOptions=Port=26") ≡ None)
unfolding most_option rest_value
example = (refl, refl, refl, refl, refl, refl, refl, refl)
