-- The controls of what is accepted.
use Rattle.table_samples.proofs.Lemmas.{valid_cuts}
use Rattle.table_samples.proofs.calls.accept.Goals as goal

pub accept-requires-clause-valid : goal.accept-requires-clause-valid
accept-requires-clause-valid g c = valid_cuts c.args.table.now.terms c.args.message c.args.moment c.args.cuts.now c.ranges.moment.fits c.requires.message c.requires.cuts
