use Rattle.std.proofs.Common.{◌≡◌, ℕ, ◌≤◌, ◌-◌, List, length}
use Rattle.sendmail_run.specs.Devices.{streams}
use Rattle.sendmail_run.specs.Printing.{basis}
use Rattle.sendmail_run.specs.inner.Taking.{At}
use Rattle.sendmail_run.proofs.address_test.answer_all.Given as goal

-- the ended lines of all that was taken are answered
abbrev pub invariant-loop-total : goal.invariant-loop-total
invariant-loop-total g l = record {
  at : (taken : List ℕ) × (length taken ≡ l.total) × At (basis l.fn.config l.fn.maps) l.config (streams (g.I.Source.seen l.fn.input) (g.O.Sink.seen l.fn.output)) (streams (g.I.Source.seen l.input) (g.O.Sink.seen l.output)) taken taken l.partial;
  most : l.total ≤ 4294967296;
  input : (g.I.Source.seen l.fn.input).faults ≤ (g.I.Source.seen l.input).faults;
  output : (g.O.Sink.seen l.fn.output).faults ≤ (g.O.Sink.seen l.output).faults;
  read : (g.I.Source.seen l.input).faults ≡ (g.I.Source.seen l.fn.input).faults;
  written : (g.O.Sink.seen l.output).faults ≡ (g.O.Sink.seen l.fn.output).faults;
}

abbrev pub decreases-loop-total : goal.decreases-loop-total
decreases-loop-total g l = 4294967296 - l.total
