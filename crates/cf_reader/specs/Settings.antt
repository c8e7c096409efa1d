-- The options that are read, by their names without ASCII case (Sendmail Installation and Operation
-- Guide, "O: Set Option"; MaxDaemonSessions and HomesFile are our own).
use Rattle.std.specs.Prelude.{◌≡◌, ℕ, List, [], ◌∷◌, Option, None, Some, option_map, codes, refl}
use Rattle.std.specs.Option.{option_or}
use Rattle.mail_base.specs.Catalogs.{value_like}
use Rattle.cf_reader.specs.declared.setting.Setting.{Setting}
use Rattle.cf_reader.specs.declared.setting.Setting.TheVariants.{Number, Time, Word, AliasFile, DaemonPort}
use Rattle.cf_reader.specs.declared.setting.NumberOption.{NumberOption}
use Rattle.cf_reader.specs.declared.setting.NumberOption.TheVariants.{MaxDaemonSessions, MaxHopCount, MaxAliasRecursion, MaxMessageSize, MaxRecipients, RecipientFactor, ClassFactor, RetryFactor}
use Rattle.cf_reader.specs.declared.setting.TimeOption.{TimeOption}
use Rattle.cf_reader.specs.declared.setting.TimeOption.TheVariants.{QueueReturn, QueueWarn, MinQueueAge}
use Rattle.cf_reader.specs.declared.setting.WordOption.{WordOption}
use Rattle.cf_reader.specs.declared.setting.WordOption.TheVariants.{QueueDirectory, HostsFile, HomesFile, OperatorChars, DoubleBounceAddress}

-- options whose value is a number
abbrev pub number_options : List (List ℕ × NumberOption)
number_options =
    (codes "MaxDaemonSessions", MaxDaemonSessions)
    ∷ (codes "MaxHopCount", MaxHopCount)
    ∷ (codes "MaxAliasRecursion", MaxAliasRecursion)
    ∷ (codes "MaxMessageSize", MaxMessageSize)
    ∷ (codes "MaxRecipientsPerMessage", MaxRecipients)
    ∷ (codes "RecipientFactor", RecipientFactor)
    ∷ (codes "ClassFactor", ClassFactor)
    ∷ (codes "RetryFactor", RetryFactor)
    ∷ []

-- options whose value is a time
abbrev pub time_options : List (List ℕ × TimeOption)
time_options = (codes "Timeout.queuereturn", QueueReturn) ∷ (codes "Timeout.queuewarn", QueueWarn)
    ∷ (codes "MinQueueAge", MinQueueAge) ∷ []

-- the letter of the unit that a number without a letter has: d (100), h (104) or m (109)
abbrev pub unit_of : TimeOption → ℕ
unit_of QueueReturn = 100
unit_of QueueWarn = 104
unit_of MinQueueAge = 109

-- options whose value is taken as it is written
abbrev pub word_options : List (List ℕ × WordOption)
word_options =
    (codes "QueueDirectory", QueueDirectory)
    ∷ (codes "HostsFile", HostsFile)
    ∷ (codes "HomesFile", HomesFile)
    ∷ (codes "OperatorChars", OperatorChars)
    ∷ (codes "DoubleBounceAddress", DoubleBounceAddress)
    ∷ []

-- the options whose values are lists
abbrev pub list_options : List (List ℕ × Setting)
list_options = (codes "AliasFile", AliasFile) ∷ (codes "DaemonPortOptions", DaemonPort) ∷ []

-- the option of a name, or none where it isn't read
abbrev pub setting_named : List ℕ → Option Setting
setting_named name =
    option_or (option_map Number (value_like name number_options))
    (option_or (option_map Time (value_like name time_options))
    (option_or (option_map Word (value_like name word_options)) (value_like name list_options)))

example : (setting_named (codes "maxhopcount") ≡ Some (Number MaxHopCount))
    × (setting_named (codes "aliasFILE") ≡ Some AliasFile)
    × (setting_named (codes "MaxHopCounts") ≡ None)
example = (refl, refl, refl)
