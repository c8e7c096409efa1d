-- The rows so far.
use Rattle.std.proofs.Common.{All}
use Rattle.table_samples.specs.Samples.{HasAddress}
use Rattle.table_samples.proofs.mails.draws_of.Given as goal

abbrev pub invariant-loop : goal.invariant-loop
invariant-loop l = All HasAddress l.draws
