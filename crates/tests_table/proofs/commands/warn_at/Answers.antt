-- The controls of what is sent.
use Rattle.tests_table.proofs.Lemmas.{valid_backs}
use Rattle.tests_table.proofs.commands.warn_at.Goals as goal

pub warn-requires-clause-valid : goal.warn-requires-clause-valid
warn-requires-clause-valid g c = valid_backs c.args.table.now.terms c.args.moment c.in_ok-backs.backs c.ranges.moment.fits c.in_ok-backs.ensures
