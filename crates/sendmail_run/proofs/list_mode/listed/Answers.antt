-- The queue was opened and then read, and the listing is that of its files.
use Rattle.queue_table.specs.Directories.{all_dirs, terms_of}
use Rattle.sendmail_run.proofs.ListLemmas.{listed_over, opened, opened_and_read}
use Rattle.sendmail_run.proofs.list_mode.listed.Goals as goal

pub returns-clause-taken : goal.returns-clause-taken
returns-clause-taken g c =
    let want = all_dirs (terms_of c.args.config.now) in
    let before = g.D.Spool.seen c.args.spool.now in
    let between = g.D.Spool.seen c.open.new.spool in
    opened_and_read want before between (g.D.Spool.seen c.listing.new.spool) (opened want c.in_ok-dirs.dirs before between c.in_ok-dirs.ensures.is c.in_ok-queue.ensures.stands c.in_ok-queue.ensures.tidied) c.listing.ensures.untouched

pub returns-clause-is : goal.returns-clause-is
returns-clause-is g c =
    let opens = c.in_ok-queue.ensures in
    listed_over (all_dirs (terms_of c.args.config.now)) c.in_ok-dirs.dirs (g.D.Spool.seen c.args.spool.now) (g.D.Spool.seen c.open.new.spool) c.in_ok-queue.queue (terms_of c.args.config.now) c.in_ok-table.table c.listing.result
    c.in_ok-table.ensures c.in_ok-dirs.ensures.is opens.store.0 opens.read opens.table opens.holds opens.stands c.listing.ensures.is
