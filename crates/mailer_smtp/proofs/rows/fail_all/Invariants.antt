use Rattle.std.proofs.Common.{◌≡◌, map, take}
use Rattle.std.specs.Prelude.{vec_capacity}
use Rattle.mail_base.specs.declared.outcome.Result1.TheVariants.{Failed}
use Rattle.mailer_smtp.specs.Plans.{row_of}
use Rattle.mailer_smtp.proofs.rows.fail_all.Given as goal

abbrev pub invariant-loop-rcpt : goal.invariant-loop-rcpt
invariant-loop-rcpt l = (l.rows.items ≡ map (row_of (Failed l.status l.note)) (take l.rcpt-index l.left)) × (vec_capacity l.rows ≡ vec_capacity l.initial.rows)
