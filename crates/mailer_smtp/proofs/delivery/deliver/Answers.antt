use Rattle.std.proofs.Common.{map, sym, ◌∙◌, ap}
use Rattle.mailer_smtp.specs.Plans.{unsaid_row}
use Rattle.mailer_smtp.proofs.DeliverLemmas.{delivered_by, delivered_none}
use Rattle.mailer_smtp.proofs.PlanLemmas.{delivered_size}
use Rattle.mailer_smtp.proofs.delivery.deliver.Goals as goal

pub returns-then-not-is_sayable-clause-delivered : goal.returns-then-not-is_sayable-clause-delivered
returns-then-not-is_sayable-clause-delivered g c = delivered_none _ _ _ _ _ (sym c.is_sayable.ensures ∙ c.if-not-is_sayable.true) (c.from_vec.ensures ∙ c.refuse_all.ensures.items ∙ ap (map (λ _. unsaid_row)) c.items.ensures)

pub returns-clause-delivered : goal.returns-clause-delivered
returns-clause-delivered g c = delivered_by _ _ _ _ _ _ _ _ _ (sym c.is_sayable.ensures ∙ c.if-not-is_sayable.false) c.in_ok-kit.ensures c.items-2.ensures c.from_vec-2.ensures c.attempt.ensures.attempted

pub returns-then-not-is_sayable-clause-each : goal.returns-then-not-is_sayable-clause-each
returns-then-not-is_sayable-clause-each g c = delivered_size _ _ _ _ _ _ (returns-then-not-is_sayable-clause-delivered g c)

pub returns-clause-each : goal.returns-clause-each
returns-clause-each g c = delivered_size _ _ _ _ _ _ (returns-clause-delivered g c)
