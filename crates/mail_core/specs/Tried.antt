-- What became of the entries of a list that is over (own; the list is that of the switch -q of the
-- Sendmail Installation and Operation Guide).
use Rattle.std.specs.Prelude.{◌≡◌, ℕ, List, ◌∷◌, ◌++◌, Some, Contains}
use Rattle.mail_base.specs.declared.control.Control.{Control}
use Rattle.mail_base.specs.declared.outcome.Result1.{Result1}
use Rattle.spool_store.specs.Entries.{Table}
use Rattle.queue_table.specs.Commands.{control_at}
use Rattle.queue_table.specs.Soundness.{IsTried}
use Rattle.queue_run.specs.declared.batch.Routed.{Routed}
use Rattle.queue_run.specs.Deeds.{Asks, Claims, Frees}
use Rattle.queue_run.specs.Steps.{record_of}
use Rattle.mail_core.specs.Effects.{Effect, Does, table_after}
use Rattle.mail_core.specs.Sites.{Site}

-- what came of the row at a place of the entry of an id was recorded, of an attempt or of none
pub record WasRecorded (site : Site) (effects : List Effect) (id place : ℕ) : Type 0 where
  pub moment : ℕ
  pub places : List ℕ
  pub results : List Result1
  pub among : Contains effects (Does (Asks (record_of site.config moment id places results)))
  pub here : Contains places place

-- an entry was claimed and let go again, and in between it was recorded of each row that was still
-- tried at the claim what came of it
pub record WasTried (site : Site) (first : Table) (effects : List Effect) (id : ℕ) : Type 0 where
  pub before : List Effect
  pub rows : List Routed
  pub between : List Effect
  pub later : List Effect
  pub whole : effects ≡ before ++ Does (Claims id rows) ∷ (between ++ Does (Frees id) ∷ later)
  pub control : Control
  pub there : control_at id (table_after first before).entries ≡ Some control
  pub each : (place : ℕ) → IsTried control.rows place → WasRecorded site between id place
