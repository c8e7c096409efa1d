use Rattle.std.proofs.Common.{ap}
use Rattle.mailer_smtp.proofs.DeliverLemmas.{part_quit, part_plain, parted_as}
use Rattle.mailer_smtp.proofs.delivery.part.Goals as goal
use Rattle.mailer_smtp.proofs.delivery.part.Goals.{then-quits, else-quits}

pub returns : goal.returns
returns g c = elim c.if-quits.branch [
  | then-quits w ↦ parted_as _ _ _ _ _ _ w.if-quits.true (part_quit _ _ _ _ _ _ w.write.result (ap g.N.Dialer.seen w.dialer-is) w.write.ensures.told w.write.ensures.missed w.write.ensures.cause w.write.ensures.calm c.close.ensures.told c.close.ensures.missed c.close.ensures.own)
  | else-quits w ↦ parted_as _ _ _ _ _ _ w.if-quits.false (part_plain _ _ _ _ _ (ap g.N.Dialer.seen w.dialer-is) c.close.ensures.told c.close.ensures.missed c.close.ensures.own)
]
