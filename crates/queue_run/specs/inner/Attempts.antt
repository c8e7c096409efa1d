-- The next batch of a runner. It need not be believed: only private contracts cite it.
use Rattle.std.specs.Prelude.{◌≡◌, Some, slice_get}
use Rattle.mail_base.specs.Catalogs.{value_like}
use Rattle.mail_base.specs.declared.config.Config.{Config}
use Rattle.mail_base.specs.declared.mailer.Mailer.{Mailer}
use Rattle.mail_base.specs.declared.route.Resolved.{Resolved}
use Rattle.mail_base.specs.declared.route.Resolved.TheVariants.{Goes, Refuses}
use Rattle.queue_run.specs.declared.batch.Batch.{Batch}
use Rattle.queue_run.specs.declared.runner.Runner.{Runner}
use Rattle.queue_run.specs.Holders.{holder_of}

-- of the next batch that is so
abbrev pub IsFirst : Runner → (Batch → Type 0) → Type 0
IsFirst r P = (batch : Batch) → slice_get (holder_of r).rest 0 ≡ Some batch → P batch

-- it goes by that mailer
abbrev pub IsBy : Config → Mailer → Resolved → Type 0
IsBy config mailer (Goes triple) = value_like triple.mailer config.mailers ≡ Some mailer
IsBy config mailer (Refuses error) = ⊥

abbrev pub GoesBy : Config → Mailer → Batch → Type 0
GoesBy config mailer batch = IsBy config mailer batch.resolved
