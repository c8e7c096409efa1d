use Rattle.std.proofs.Common.{◌≡◌, ◌++◌, map, take}
use Rattle.std.specs.Prelude.{vec_capacity}
use Rattle.mailer_smtp.specs.Plans.{result_of, row_of}
use Rattle.mailer_smtp.proofs.rows.fill.Given as goal

abbrev pub invariant-loop-rcpt : goal.invariant-loop-rcpt
invariant-loop-rcpt l = (l.rows.items ≡ l.initial.rows.items ++ map (row_of (result_of l.last)) (take l.rcpt-index l.left)) × (vec_capacity l.rows ≡ vec_capacity l.initial.rows)
