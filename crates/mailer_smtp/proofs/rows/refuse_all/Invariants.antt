use Rattle.std.proofs.Common.{◌≡◌, map, take}
use Rattle.std.specs.Prelude.{vec_capacity}
use Rattle.mailer_smtp.specs.Plans.{unsaid_row}
use Rattle.mailer_smtp.proofs.rows.refuse_all.Given as goal

abbrev pub invariant-loop-user : goal.invariant-loop-user
invariant-loop-user l = (l.rows.items ≡ map (λ _. unsaid_row) (take l._user-index l.users)) × (vec_capacity l.rows ≡ vec_capacity l.initial.rows)
