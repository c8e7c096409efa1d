-- What the attempts of a run are (Sendmail Installation and Operation Guide, M: Define Mailer, and
-- the rules of R and S lines).
use Rattle.std.specs.Prelude.{◌≡◌, ℕ, ◌<◌, ℤ, List, ◌∷◌, ◌++◌, Some, All, Contains, []}
use Rattle.mail_base.specs.Catalogs.{value_like}
use Rattle.mail_base.specs.declared.config.Config.{Config}
use Rattle.mail_base.specs.declared.control.Control.{Control}
use Rattle.mail_base.specs.declared.mailer.Mailer.{Mailer}
use Rattle.mail_base.specs.declared.route.Resolved.TheVariants.{Goes}
use Rattle.mail_base.specs.declared.route.Triple.{Triple}
use Rattle.mailer_pipe.specs.Ends.{ended_with}
use Rattle.mailer_pipe.specs.Starts.{start_of}
use Rattle.spawn_edge.specs.declared.event.Start.{Start}
use Rattle.spool_store.specs.Entries.{Table}
use Rattle.queue_table.specs.Commands.{control_at}
use Rattle.queue_table.specs.Soundness.{IsTried}
use Rattle.queue_run.specs.declared.batch.Batch.{Batch}
use Rattle.queue_run.specs.declared.batch.Routed.{Routed}
use Rattle.queue_run.specs.declared.letter.Letter.{Letter}
use Rattle.queue_run.specs.Batches.{batches_of}
use Rattle.queue_run.specs.Claims.{AreRouted}
use Rattle.queue_run.specs.Deeds.{Asks, Claims, Given, Starts, Talk, Talks}
use Rattle.queue_run.specs.Handovers.{IsHandover}
use Rattle.queue_run.specs.Kinds.{host_macros}
use Rattle.queue_run.specs.Meant.{IsLetter, ground_of, host_of}
use Rattle.queue_run.specs.Peers.{peers_of}
use Rattle.queue_run.specs.Results.{alike}
use Rattle.queue_run.specs.Steps.{record_of}
use Rattle.mail_core.specs.Effects.{Effect, Does, table_after}
use Rattle.mail_core.specs.Lasting.{IsSentAt}
use Rattle.mail_core.specs.Sites.{Site}

-- the last claim of an entry among some effects: its rows went where the rules lead them, as the
-- table was then, and the batch is one of those in which they are tried
pub record IsBatchOf (site : Site) (first : Table) (done : List Effect) (id : ℕ) (batch : Batch)
    : Type 0 where
  pub before : List Effect
  pub rows : List Routed
  pub since : List Effect
  pub whole : done ≡ before ++ Does (Claims id rows) ∷ since
  pub control : Control
  pub there : control_at id (table_after first before).entries ≡ Some control
  pub routed : AreRouted site.config site.maps id control rows
  pub among : Contains (batches_of site.config rows) batch

-- a batch goes by a mailer of the configuration
pub record IsMailerOf (config : Config) (batch : Batch) (mailer : Mailer) : Type 0 where
  pub triple : Triple
  pub goes : batch.resolved ≡ Goes triple
  pub mailer_is : value_like triple.mailer config.mailers ≡ Some mailer

-- each place is below all behind it, so that none stands twice
abbrev pub AreAscending : List ℕ → Type 0
AreAscending [] = Unit {0}
AreAscending (place ∷ places) = All (λ other. place < other) places × AreAscending places

-- the rows of a batch are still tried, and a letter was made for it by its mailer
pub record IsTriedBatch (site : Site) (first : Table) (done : List Effect) (id : ℕ)
    (places : List ℕ) (batch : Batch) (mailer : Mailer) (letter : Letter) : Type 0 where
  pub moment : ℕ
  pub control : Control
  pub there : control_at id (table_after first done).entries ≡ Some control
  pub claimed : IsBatchOf site first done id batch
  pub goes : IsMailerOf site.config batch mailer
  pub places_are : places ≡ batch.places
  pub ascending : AreAscending places
  pub tried : All (IsTried control.rows) places
  pub letter_is : IsLetter (ground_of site.config site.maps moment) id control mailer
      (host_of batch.resolved) letter

-- a program is started for such a batch, and gets that letter
pub record IsStart (site : Site) (first : Table) (done : List Effect) (id : ℕ) (places : List ℕ)
    (start : Start) : Type 0 where
  pub batch : Batch
  pub mailer : Mailer
  pub letter : Letter
  pub tries : IsTriedBatch site first done id places batch mailer letter
  pub start_is : start ≡ start_of mailer letter.macros batch.users letter.text

-- such a batch is delivered to the peers of its mailer, and what came of it is recorded at once
pub record IsDelivery (site : Site) (first : Table) (done : List Effect) (id : ℕ)
    (places : List ℕ) (talk : Talk) (later : List Effect) : Type 0 where
  pub batch : Batch
  pub mailer : Mailer
  pub letter : Letter
  pub tries : IsTriedBatch site first done id places batch mailer letter
  pub handed : IsHandover site.config tries.control batch mailer
      (peers_of site.maps mailer
      (host_macros site.config id tries.control (host_of batch.resolved)))
      letter talk
  pub moment : ℕ
  pub rest : List Effect
  pub recorded : later
      ≡ Does (Asks (record_of site.config moment id places talk.results)) ∷ rest

-- a program was started for the rows at some places, and is this child
pub record IsChildFor (done : List Effect) (id child : ℕ) (places : List ℕ) : Type 0 where
  pub start : Start
  pub missed : ℕ
  pub among : Contains done (Does (Starts id places start (Given child missed)))

-- the end of such a child is recorded at once, with the same result for each row
pub record IsEndRecorded (site : Site) (done : List Effect) (id child : ℕ) (status : ℤ)
    (later : List Effect) : Type 0 where
  pub places : List ℕ
  pub started : IsChildFor done id child places
  pub moment : ℕ
  pub rest : List Effect
  pub recorded : later
      ≡ Does (Asks (record_of site.config moment id places (alike (ended_with status) places)))
      ∷ rest

-- an effect is an attempt at the row at a place of the entry of an id
abbrev pub IsTryOfRow : Effect → (id place : ℕ) → Type 0
IsTryOfRow (Does (Starts other places start launch)) id place =
    (other ≡ id) × Contains places place
IsTryOfRow (Does (Talks other places talk)) id place = (other ≡ id) × Contains places place
IsTryOfRow effect id place = ⊥

-- the rows for which a child was started were sent
pub record WereSent (table : Table) (done : List Effect) (id child : ℕ) : Type 0 where
  pub places : List ℕ
  pub started : IsChildFor done id child places
  pub sent : (place : ℕ) → Contains places place → IsSentAt table id place
