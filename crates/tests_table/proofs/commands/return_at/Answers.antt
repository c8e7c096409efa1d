-- The controls of what is sent.
use Rattle.tests_table.proofs.Lemmas.{valid_backs}
use Rattle.tests_table.proofs.commands.return_at.Goals as goal

pub give_back-requires-clause-valid : goal.give_back-requires-clause-valid
give_back-requires-clause-valid g c = valid_backs c.args.table.now.terms c.args.moment c.in_ok-backs.backs c.ranges.moment.fits c.in_ok-backs.ensures
