use Rattle.std.proofs.Common.{◌≡◌, ◌≤◌, ◌+◌, length, false}
use Rattle.std.specs.Prelude.{IfSome}
use Rattle.cf_reader.specs.Configuration.{read_lines, configuration}
use Rattle.cf_reader.specs.inner.Scans.{left}
use Rattle.mail_edge.specs.Asking.{Asks}
use Rattle.cf_reader.proofs.reader.read.Given as goal

-- what the rest of the lines gives is what all give, and the files didn't fail
abbrev pub invariant-loop-state : goal.invariant-loop-state
invariant-loop-state g l = record {
  rest : IfSome (g.F.Files.seen l.fn.files).map (λ map. read_lines map l.state (left l.number l.rest) ≡ configuration map l.fn.text);
  few : l.number + length l.rest ≤ length l.fn.text;
  asks : Asks (g.F.Files.seen l.fn.files) (g.F.Files.seen l.files) false;
}

abbrev pub decreases-loop-state : goal.decreases-loop-state
decreases-loop-state g l = length l.rest
