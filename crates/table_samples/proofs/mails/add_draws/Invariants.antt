-- The rows so far.
use Rattle.std.proofs.Common.{All}
use Rattle.table_samples.specs.Samples.{HasAddress}
use Rattle.table_samples.proofs.mails.add_draws.Given as goal

abbrev pub invariant-loop-row : goal.invariant-loop-row
invariant-loop-row l = All HasAddress l.draws
