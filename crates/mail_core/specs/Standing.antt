-- What the core keeps, and what of the machine it stands for.
use Rattle.std.specs.Prelude.{◌≡◌, ◌≢◌, ℕ, ◌<◌, ◌^◌, [], ◌++◌, All, Option, None, false}
use Rattle.std.specs.List.{AllZip}
use Rattle.mail_base.specs.declared.config.Config.{Config}
use Rattle.map_tables.specs.Answers.{Loaded}
use Rattle.smtp_lines.specs.Reader.{Reader, Stream, awaited, Stands as Reads}
use Rattle.smtp_receive.specs.Forms.{AreFormed}
use Rattle.smtp_receive.specs.Sessions.{Stands as Speaks}
use Rattle.smtp_receive.specs.Replies.{out_of_memory_text, too_many_sessions_text}
use Rattle.spawn_edge.specs.Spawned.{Spawned}
use Rattle.spool_disk.specs.Spooled.{Spooled}
use Rattle.spool_store.specs.Entries.{Table}
use Rattle.queue_table.specs.Calls.{AreDirs, HoldsTable, Tallies, store}
use Rattle.queue_table.specs.declared.table.Table.{Table as Kept}
use Rattle.mail_core.specs.declared.caller.Caller.{Caller}
use Rattle.mail_core.specs.declared.intake.Intake.{Intake}
use Rattle.mail_core.specs.declared.serving.Core.{Core}
use Rattle.mail_core.specs.Guests.{Guest, grants_of, lines_heard}
use Rattle.mail_core.specs.Sites.{IsUnder, Site, terms_at}
use Rattle.mail_core.specs.Beginning.{IsStartMeant, Start, beginning}
use Rattle.mail_core.specs.Machine.{AreOpen}
use Rattle.mail_core.specs.States.{State}
use Rattle.mail_core.specs.Crews.{IsCrew, IsManned}

-- what is kept of a table has its entries and first free id, and no call on it failed; it is of
-- the site's directories, where each group has its own
pub record Stores (site : Site) (kept : Kept) (table : Table) : Type 0 where
  pub holds : HoldsTable kept table
  pub whole : (store kept).broken ≡ false
  pub dirs : (store kept).dirs ≡ site.dirs
  pub terms : kept.terms ≡ terms_at site
  pub groups : AreDirs (terms_at site) site.dirs

-- an intake takes messages into a table
pub record Serves (site : Site) (intake : Intake) (table : Table) : Type 0 where
  pub stores : Stores site intake.table table
  pub short : intake.short ≡ out_of_memory_text
  pub range : intake.moment < 2 ^ 64

-- a caller's session stands for the lines that were answered, under the site's configuration; all
-- that the judge said of them is in its form
pub record Talks (site : Site) (caller : Caller) (g : Guest) : Type 0 where
  pub number : caller.number ≡ g.number
  pub config : g.config ≡ site.config
  pub session : Speaks caller.session g.config site.host g.peer g.heard
  pub formed : AreFormed g.config g.peer g.heard
  pub peer : All (λ b. b ≢ 10) g.peer

-- a reader stands for the bytes that were received; all lines that it gave were answered
pub record Follows (reader : Reader) (g : Guest) : Type 0 where
  pub stream : Stream
  pub stands : Reads reader stream
  pub received : stream.received ≡ g.received
  pub lines : stream.lines ≡ lines_heard g
  pub granted : stream.granted ++ awaited reader.under.may_turn false ≡ grants_of g

-- a caller stands for an open session between its pieces
pub record Keeps (site : Site) (caller : Caller) (g : Guest) : Type 0 where
  pub talks : Talks site caller g
  pub follows : Follows caller.lines g
  pub left : caller.lines.left ≡ []

-- a core stands for a state of the machine in which the run goes on
pub record Stands (site : Site) (core : Core) (m : State) : Type 0 where
  pub intake : Serves site core.intake m.table
  pub host : core.host ≡ site.host
  pub full : core.full ≡ too_many_sessions_text
  pub latest : core.intake.moment ≡ m.latest
  -- each caller stands for the session at its place
  pub callers : AllZip (Keeps site) core.callers.items m.guests
  pub guests : AreOpen m.guests
  -- who holds entries, and the list of a run over the queue
  pub crew : IsCrew site core.crew m
  pub stopping : core.stopping ≡ m.stopping
  pub on : m.over ≡ None

-- the message table of a core
abbrev pub table_of : Core → Kept
table_of core = core.intake.table

-- a core whose table has what the files say that are told, and whose runners may take steps
pub record MayGoOn (core : Core) (spooled : Spooled) (spawner : Spawned) : Type 0 where
  pub tallied : Tallies (table_of core) spooled
  pub manned : IsManned (table_of core) spawner core.crew

-- a core that stands for some state, under a configuration and maps
pub record IsStanding (core : Core) (config : Config) (maps : Loaded) : Type 0 where
  pub site : Site
  pub under : IsUnder site config maps
  pub state : State
  pub stands : Stands site core state

-- ---- how a core begins

-- a core stands for the beginning of a run over a table, whose list, where it has one, was fixed by
-- that reading of the clock
pub record Begins (site : Site) (core : Core) (table : Table) (first : Option ℕ) : Type 0 where
  pub start : Start
  pub table_is : start.table ≡ table
  pub first_is : start.first ≡ first
  pub meant : IsStartMeant site site.plan start
  pub stands : Stands site core (beginning start)
