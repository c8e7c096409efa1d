-- The configuration that a file's bytes give (Sendmail Installation and Operation Guide, "The Whole
-- Scoop on the Configuration File"), or the number and the fault of the first line that has one.
use Rattle.std.specs.Prelude.{ℕ, ◌==◌, List, [], ◌∷◌, length, fold, Option, Some, None, Result, Ok, Err, if◌then◌else◌}
use Rattle.mail_base.specs.Catalogs.{with_value}
use Rattle.mail_base.specs.declared.class.Member.{Member}
use Rattle.mail_base.specs.declared.config.Config.{Config}
use Rattle.mail_base.specs.declared.mailer.Group.{Group}
use Rattle.mail_edge.specs.Seen.{FileMap}
use Rattle.cf_reader.specs.declared.class_line.ClassLine.{ClassLine}
use Rattle.cf_reader.specs.declared.fault.CfFault.{CfFault}
use Rattle.cf_reader.specs.declared.fault.CfFault.TheVariants.{Refused}
use Rattle.cf_reader.specs.declared.fault.Fault.{Fault}
use Rattle.cf_reader.specs.declared.logical.Logical.{Logical}
use Rattle.cf_reader.specs.declared.state.State.{State}
use Rattle.cf_reader.specs.ClassLines.{with_words}
use Rattle.cf_reader.specs.Faults.{fault}
use Rattle.cf_reader.specs.Letters.{first_state, after_line}
use Rattle.cf_reader.specs.LogicalLines.{logical_lines}

-- ---- at the end

-- a group in the queue directory, unless it has a path of its own
abbrev pub placed : List ℕ → Group → Group
placed directory group = if length group.path == 0 then record group { path = directory } else group

-- a group with its path among the others
abbrev pub with_group : List ℕ → List (List ℕ × Group) → List ℕ × Group → List (List ℕ × Group)
with_group directory groups named = with_value named.0 (placed directory named.1) groups

-- the groups in the same order, each with its path
abbrev pub placed_groups : List ℕ → List (List ℕ × Group) → List (List ℕ × Group)
placed_groups directory groups = fold (with_group directory) [] groups

-- the classes with the words of all C and F lines, which are cut under these operators
abbrev pub classes_of : List ℕ → List ClassLine → List (List ℕ × List Member)
classes_of operators lines = fold (with_words operators) [] lines

-- the configuration behind the last line: what depends on options depends on their last values
abbrev pub finished : State → Config
finished state = record state.config {
  classes = classes_of state.config.options.operator_chars state.class_lines;
  groups = placed_groups state.config.options.queue_directory state.config.groups;
  maps = state.maps;
}

-- ---- all lines

-- the fault of a line with its number, or else what is said from there on
abbrev pub refused_or : Option Fault → ℕ → Result Config CfFault → Result Config CfFault
refused_or (Some fault) number later = Err (Refused number fault)
refused_or None number later = later

-- each line is tried behind those before it
abbrev pub read_lines : FileMap → State → List Logical → Result Config CfFault
read_lines files state [] = Ok (finished state)
read_lines files state (line ∷ lines) = refused_or (fault files state line.text) line.number
    (read_lines files (after_line files line state) lines)

-- the configuration that the text of a file says, or its first fault
abbrev pub configuration : FileMap → List ℕ → Result Config CfFault
configuration files bytes = read_lines files first_state (logical_lines bytes)
