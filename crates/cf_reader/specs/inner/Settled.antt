-- What becomes of the options where a value may be out of its grammar (our own).
use Rattle.std.specs.Prelude.{ℕ, List, if◌then◌else◌}
use Rattle.mail_base.specs.declared.options.Options.{Options}
use Rattle.cf_reader.specs.declared.setting.Setting.{Setting}
use Rattle.cf_reader.specs.OptionLines.{is_valid, with_setting}

-- the options with a setting, or as they were where its value isn't in its grammar
abbrev pub settled : Setting → List ℕ → Options → Options
settled setting value options =
    if is_valid setting value then with_setting setting value options else options
