use Rattle.std.proofs.Common.{map, ◌∙◌, ap, refl, arith}
use Rattle.std.specs.Prelude.{codes}
use Rattle.mail_base.specs.declared.outcome.Result1.TheVariants.{Failed}
use Rattle.mailer_smtp.specs.Plans.{row_of}
use Rattle.mailer_smtp.proofs.DeliverLemmas.{attempt_none, attempt_last, attempt_here, attempt_on, none_left, one_left}
use Rattle.mailer_smtp.proofs.delivery.+attempt.Goals as goal

pub returns-in-empty : goal.returns-in-empty
returns-in-empty g t c = record { attempted = attempt_none _ _ _ _ _ (none_left _ (omega arith)) (c.fail_all.ensures.items ∙ ap (map (row_of (Failed (codes "5.1.2") (codes "no host known")))) c.items.ensures) }

pub returns-in-len1 : goal.returns-in-len1
returns-in-len1 g t c = record { attempted = attempt_last _ _ _ c.peer-item.result _ _ _ _ (one_left _ c.peer-item.result c.peer-item.is (omega arith) (omega arith)) c.try_peer-leaves.ensures.tried }

pub returns-then-try_peer : goal.returns-then-try_peer
returns-then-try_peer g t c = record { attempted = attempt_on _ _ _ _ c.peer-item-2.result _ _ _ _ _ _ c.peer-item-2.is (omega arith) c.if-try_peer.true refl c.try_peer.ensures.tried c.attempt.ensures.attempted }

pub returns-else-try_peer : goal.returns-else-try_peer
returns-else-try_peer g t c = record { attempted = attempt_here _ _ _ c.peer-item-2.result _ _ _ _ c.peer-item-2.is (omega arith) c.if-try_peer.false c.try_peer.ensures.tried }
