use Rattle.std.proofs.Common.{◌≡◌, [], length, take, drop}
use Rattle.link_edge.specs.Dials.{IsSoundAt}
use Rattle.mailer_smtp.specs.Plans.{each}
use Rattle.mailer_smtp.specs.inner.Steps.{Went}
use Rattle.mailer_smtp.proofs.converse.hear_each.Given as goal

abbrev pub invariant-loop-i : goal.invariant-loop-i
invariant-loop-i g l = Went l.line (g.N.Dialer.seen l.fn.dialer) (g.N.Dialer.seen l.dialer) (each [] l.fn.rows) l.fn.inbox (each (take l.i l.rows) (drop l.i l.rows)) l.inbox × IsSoundAt (g.N.Dialer.seen l.dialer) l.line × (length l.rows ≡ length l.fn.rows)
