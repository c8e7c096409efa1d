use Rattle.std.proofs.Common.{◌-◌, length}
use Rattle.mailer_smtp.proofs.HearLemmas.{Hearing}
use Rattle.mailer_smtp.proofs.hear.hear.Given as goal

abbrev pub invariant-loop-verdict : goal.invariant-loop-verdict
invariant-loop-verdict g l = Hearing l.line l.wants (g.N.Dialer.seen l.fn.dialer) (g.N.Dialer.seen l.dialer) l.fn.inbox l.inbox

abbrev pub decreases-loop-verdict : goal.decreases-loop-verdict
decreases-loop-verdict g l = 204800 - length l.inbox
