-- The configuration before any line is read (Sendmail Operation Guide, the configuration file; the
-- values of w, j and v, and some defaults, are our own).
use Rattle.std.specs.Prelude.{ℕ, List, [], ◌∷◌, None, Some, false, codes}
use Rattle.mail_base.specs.declared.class.Member.{Member}
use Rattle.mail_base.specs.declared.config.Config.{Config}
use Rattle.mail_base.specs.declared.lines.MapClass.TheVariants.{Host}
use Rattle.mail_base.specs.declared.lines.MapLine.{MapLine}
use Rattle.mail_base.specs.declared.mailer.Group.{Group}
use Rattle.mail_base.specs.declared.options.Options.{Options}
use Rattle.mail_base.specs.declared.token.Token.TheVariants.{Word}

-- the macros w, j, n and v
abbrev pub first_macros : List (List ℕ × List ℕ)
first_macros =
    (codes "w", codes "localhost")
    ∷ (codes "j", codes "localhost")
    ∷ (codes "n", codes "MAILER-DAEMON")
    ∷ (codes "v", codes "8")
    ∷ []

-- the one member of class w
abbrev pub local_host : Member
local_host = record { text = codes "localhost"; tokens = Some (Word (codes "localhost") ∷ []) }

abbrev pub first_classes : List (List ℕ × List Member)
first_classes = (codes "w", local_host ∷ []) ∷ []

-- the options where no O line sets them
abbrev pub default_options : Options
default_options = record {
  queue_directory = codes "/var/spool/mqueue";
  alias_files = [];
  hosts_file = codes "/etc/hosts";
  homes_file = None;
  operator_chars = codes ".:@[]";
  daemon_port = record { port = 25; address = None };
  max_daemon_sessions = 0;
  queue_return = 432_000;
  queue_warn = None;
  min_queue_age = 0;
  max_hop_count = 25;
  max_alias_recursion = 10;
  max_message_size = 0;
  max_recipients_per_message = 0;
  recipient_factor = 30_000;
  class_factor = 1_800;
  retry_factor = 90_000;
  double_bounce_address = codes "postmaster";
}

-- a queue group of which no more is said than its name and its directory
abbrev pub new_group : List ℕ → List ℕ → Group
new_group name path =
    record { name = name; path = path; recipients = 0; runners = 1; interval = None; jobs = 0 }

-- the group that is there from the start, in the queue directory
abbrev pub main_group : Group
main_group = new_group (codes "mqueue") default_options.queue_directory

-- the map that is there from the start: a name that is found gets a dot
abbrev pub host_map : MapLine
host_map = record {
  name = codes "host";
  class = Host;
  keeps_case = false;
  match_only = false;
  tag = codes ".";
  optional = false;
  key_column = 0;
  value_column = 1;
  separator = None;
  file = None;
}

-- the configuration before any line
abbrev pub initial : Config
initial = record {
  macros = first_macros;
  classes = first_classes;
  book = [];
  mailers = [];
  groups = (codes "mqueue", main_group) ∷ [];
  maps = host_map ∷ [];
  precedences = [];
  headers = [];
  options = default_options;
  warnings = [];
}
