-- What a line of each letter says (Sendmail Installation and Operation Guide, "The Whole Scoop on
-- the Configuration File"), by what follows the letter. What is said of a line here counts where
-- the line has no fault.
use Rattle.std.specs.Prelude.{ℕ, Bool, true, false, ◌||◌, ◌&&◌, ◌==◌, not, List, [], ◌∷◌, ◌++◌, bytes_eq, codes, Option, Some, None, is_some, if◌then◌else◌}
use Rattle.std.specs.Str.{str_to_ascii_lowercase}
use Rattle.mail_base.specs.Catalogs.{value_at, with_value}
use Rattle.mail_base.specs.Configs.{initial, host_map, new_group}
use Rattle.mail_base.specs.declared.config.Config.{Config}
use Rattle.mail_base.specs.declared.lines.HeaderLine.{HeaderLine}
use Rattle.mail_base.specs.declared.mailer.Group.{Group}
use Rattle.mail_base.specs.declared.mailer.Mailer.{Mailer}
use Rattle.mail_base.specs.declared.rule.Rule.{Rule}
use Rattle.mail_edge.specs.Seen.{FileMap}
use Rattle.cf_reader.specs.declared.class_line.ClassLine.{ClassLine}
use Rattle.cf_reader.specs.declared.logical.Logical.{Logical}
use Rattle.cf_reader.specs.declared.setting.Setting.{Setting}
use Rattle.cf_reader.specs.declared.setting.Setting.TheVariants.{Number, Time, Word, AliasFile, DaemonPort}
use Rattle.cf_reader.specs.declared.state.State.{State}
use Rattle.cf_reader.specs.ClassLines.{class_of, file_class_of}
use Rattle.cf_reader.specs.DefineLines.{with_macro}
use Rattle.cf_reader.specs.GroupLines.{group_of}
use Rattle.cf_reader.specs.HeaderLines.{header_of}
use Rattle.cf_reader.specs.MailerLines.{mailer_of}
use Rattle.cf_reader.specs.MapLines.{map_of}
use Rattle.cf_reader.specs.OptionLines.{setting_of, options_after}
use Rattle.cf_reader.specs.PrecedenceLines.{precedence_of}
use Rattle.cf_reader.specs.Rules.{rule_of}
use Rattle.cf_reader.specs.SetLines.{set_names, begun, with_rule_of}

-- ---- before any line

-- the group mqueue, whose path is settled at the end
abbrev pub unplaced_group : Group
unplaced_group = new_group (codes "mqueue") []

-- the configuration before the first line: the default options, and the group mqueue
abbrev pub first_config : Config
first_config = record initial { groups = (codes "mqueue", unplaced_group) ∷ [] }

-- the class w has localhost from the beginning
abbrev pub local_words : ClassLine
local_words = record { class = codes "w"; words = codes "localhost" ∷ [] }

-- no line yet: the map host is there, class w has the word localhost, and rules go to the set 0
abbrev pub first_state : State
first_state = record {
  config = record first_config { maps = [] };
  maps = host_map ∷ [];
  class_lines = local_words ∷ [];
  names = codes "0" ∷ [];
  has_rules = false;
  has_main = false;
  has_daemon = false;
}

-- ---- macros and classes

-- a D line sets a macro
abbrev pub after_define : List ℕ → State → State
after_define text state =
    record state { config = record state.config { macros = with_macro text state.config.macros } }

-- a C line gives words to a class
abbrev pub after_class : List ℕ → State → State
after_class text state =
    record state { class_lines = state.class_lines ++ class_of text state.config.macros ∷ [] }

-- an F line gives the words of a file to a class
abbrev pub after_file : FileMap → List ℕ → State → State
after_file files text state =
    record state { class_lines = state.class_lines ++ file_class_of files text ∷ [] }

-- ---- maps, mailers, precedences and groups

-- a K line declares a map
abbrev pub after_map : List ℕ → State → State
after_map text state = record state { maps = state.maps ++ map_of text state.maps ∷ [] }

-- a mailer stands under its name in small letters, and a later line of the name replaces it
abbrev pub with_mailer : Mailer → Config → Config
with_mailer mailer config = record config {
  mailers = with_value (str_to_ascii_lowercase mailer.name) mailer config.mailers;
}

-- an M line declares a mailer
abbrev pub after_mailer : List ℕ → State → State
after_mailer text state = record state { config = with_mailer (mailer_of text) state.config }

-- a P line names a precedence
abbrev pub after_precedence : List ℕ → State → State
after_precedence text state = record state {
  config = record state.config {
    precedences = state.config.precedences ++ precedence_of text ∷ [];
  };
}

-- the name of the group that is there from the beginning
abbrev pub is_main : List ℕ → Bool
is_main name = bytes_eq name (codes "mqueue")

-- a Q line had this name: its group is there, and mqueue is so from the start
abbrev pub had_group : List ℕ → State → Bool
had_group name state =
    is_some (value_at name state.config.groups) && (state.has_main || not (is_main name))

-- one group more
abbrev pub with_group : Group → State → State
with_group group state = record state {
  config = record state.config { groups = with_value group.name group state.config.groups };
  has_main = state.has_main || is_main group.name;
}

-- a Q line declares a group
abbrev pub after_group : List ℕ → State → State
after_group text state = with_group (group_of text) state

-- ---- rulesets

-- an S line begins a ruleset, or goes on with one
abbrev pub after_set : List ℕ → State → State
after_set text state = record state {
  config = record state.config { book = begun (set_names text) state.config.book };
  names = set_names text;
  has_rules = true;
}

-- a side is expanded with the macros so far, and cut under the operators so far
abbrev pub rule_behind : State → List ℕ → Rule
rule_behind state text = rule_of text state.config.macros state.config.options.operator_chars

-- an R line adds a rule to the ruleset of the last S line
abbrev pub after_rule : List ℕ → State → State
after_rule text state = record state {
  config = record state.config {
    book = with_rule_of state.names (rule_behind state text) state.config.book;
  };
  has_rules = true;
}

-- ---- lines that may be ignored, with a warning

-- a line that is ignored with a warning
abbrev pub ignored : ℕ → State → State
ignored number state = record state {
  config = record state.config { warnings = state.config.warnings ++ number ∷ [] };
}

-- the option is DaemonPortOptions
abbrev pub is_daemon : Setting → Bool
is_daemon (Number option) = false
is_daemon (Time option) = false
is_daemon (Word option) = false
is_daemon AliasFile = false
is_daemon DaemonPort = true

-- an option is set, or else its line is ignored
abbrev pub with_setting : ℕ → List ℕ → Option Setting → State → State
with_setting number text None state = ignored number state
with_setting number text (Some setting) state =
    record state {
      config = record state.config {
        options = options_after state.has_daemon text state.config.options;
      };
      has_daemon = state.has_daemon || is_daemon setting;
    }

-- an O line sets an option
abbrev pub after_option : ℕ → List ℕ → State → State
after_option number text state = with_setting number text (setting_of state.has_daemon text) state

-- a header is declared, or else its line is ignored
abbrev pub with_header : ℕ → Option HeaderLine → State → State
with_header number None state = ignored number state
with_header number (Some header) state =
    record state { config = record state.config { headers = state.config.headers ++ header ∷ [] } }

-- an H line declares a header
abbrev pub after_header : ℕ → List ℕ → State → State
after_header number text state = with_header number (header_of text) state

-- ---- any line

-- what a line says, by its letter
abbrev pub after_text : FileMap → ℕ → List ℕ → State → State
after_text files number [] state = state
after_text files number (letter ∷ text) state =
    if letter == 68 then after_define text state
    else if letter == 67 then after_class text state
    else if letter == 70 then after_file files text state
    else if letter == 75 then after_map text state
    else if letter == 77 then after_mailer text state
    else if letter == 79 then after_option number text state
    else if letter == 80 then after_precedence text state
    else if letter == 81 then after_group text state
    else if letter == 83 then after_set text state
    else if letter == 82 then after_rule text state
    else if letter == 72 then after_header number text state
    else ignored number state

-- D, C, F, K, M, O, P, Q, S, R and H say what is said of them above, and each other letter is
-- ignored
abbrev pub after_line : FileMap → Logical → State → State
after_line files line state = after_text files line.number line.text state
