-- What a run serves with (own; the configuration is that of the Sendmail Installation and
-- Operation Guide).
use Rattle.std.specs.Prelude.{◌≡◌, ℕ, List}
use Rattle.mail_base.specs.declared.config.Config.{Config}
use Rattle.map_tables.specs.Answers.{Loaded}
use Rattle.queue_table.specs.Directories.{terms_of}
use Rattle.queue_table.specs.declared.terms.Terms.{Terms}
use Rattle.mail_core.specs.Plans.{Plan}

-- the host that replies name, the directories of the queue, the configuration of the run with its
-- maps, and what the run is made for
pub record Site : Type 0 where
  pub host : List ℕ
  pub dirs : List (List ℕ)
  pub config : Config
  pub maps : Loaded
  pub plan : Plan

-- a site under a configuration and maps
pub record IsUnder (site : Site) (config : Config) (maps : Loaded) : Type 0 where
  pub config_is : site.config ≡ config
  pub maps_are : site.maps ≡ maps

-- what commands take from it
abbrev pub terms_at : Site → Terms
terms_at site = terms_of site.config
