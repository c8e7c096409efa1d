-- What was taken is what the source has lost, a byte at least in each turn, and its count has not
-- fallen.
use Rattle.std.proofs.Common.{◌≤◌, length}
use Rattle.mail_edge.specs.Moves.{Loses}
use Rattle.tests_edge.proofs.edges.drained.Given as goal

abbrev pub invariant-loop : goal.invariant-loop
invariant-loop g l = record {
  taken : Loses (g.S.Source.seen l.initial.source).left (g.S.Source.seen l.source).left l.bytes.items;
  later : (g.S.Source.seen l.initial.source).faults ≤ (g.S.Source.seen l.source).faults;
  turns : l.counter ≤ length l.bytes.items;
}
