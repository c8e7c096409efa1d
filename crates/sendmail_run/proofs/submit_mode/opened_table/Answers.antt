-- The queue is opened, and a table stands over it.
use Rattle.std.proofs.Common.{None, ◌∙◌}
use Rattle.mail_core.specs.Plans.{Serve}
use Rattle.spool_store.specs.Keepers.{seen as queue_seen}
use Rattle.queue_table.specs.Directories.{all_dirs, terms_of}
use Rattle.sendmail_run.specs.Serving.{site_of}
use Rattle.sendmail_run.proofs.OpeningLemmas.{found_of, no_maps, sparing_of}
use Rattle.sendmail_run.proofs.SubmitLemmas.{found_over, may_over}
use Rattle.sendmail_run.proofs.submit_mode.opened_table.Goals as goal

pub returns-clause-sparing : goal.returns-clause-sparing
returns-clause-sparing g c =
    let opens = c.in-Ok-open.ensures in
    sparing_of (site_of c.args.config.now no_maps (Serve None)) (g.D.Spool.seen c.args.spool.now) (g.D.Spool.seen c.open.new.spool) c.in-Ok.dirs (queue_seen c.in-Ok-open.queue) opens.store.0 c.in-Ok.ensures.is c.opening_settles.ensures.strange opens.stands opens.tidied opens.read opens.agrees

pub returns-clause-found : goal.returns-clause-found
returns-clause-found g c =
    let opens = c.in-Ok-open.ensures in
    found_over (all_dirs (terms_of c.args.config.now)) (g.D.Spool.seen c.args.spool.now).told c.in-Ok-open.queue c.in-Ok-over.table (terms_of c.args.config.now) c.in-Ok-over.ensures
    (found_of (site_of c.args.config.now no_maps (Serve None)) c.in-Ok.dirs (g.D.Spool.seen c.args.spool.now).told (queue_seen c.in-Ok-open.queue) c.in-Ok.ensures.is opens.read opens.table opens.holds)

pub returns-clause-may : goal.returns-clause-may
returns-clause-may g c =
    may_over c.args.config.now c.in-Ok-open.queue c.in-Ok-over.table (g.D.Spool.seen c.open.new.spool) c.in-Ok-over.ensures (c.in-Ok-open.ensures.store.0 ∙ c.in-Ok.ensures.is) c.in-Ok-open.ensures.store.1 c.in-Ok-open.ensures.agrees
