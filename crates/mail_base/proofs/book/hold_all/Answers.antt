use Rattle.std.proofs.Common.{arith}
use Rattle.mail_base.proofs.BookLemmas.{held_next}
use Rattle.mail_base.proofs.book.hold_all.Goals as goal

pub loop-name-preserved : goal.loop-name-preserved
loop-name-preserved c = record {
  keeps = λ name place held. c.hold.ensures.keeps name place (c.loop-name.invariant.keeps name place held);
  held = held_next c.args.names.now c.loop-name.name-index c.args.place c.name-item.result c.loop-name.places c.hold.new.self
      (omega (arith, c.loop-name-test.true, c.loop-name.auto.name-index-end)) c.name-item.is c.hold.ensures.keeps c.in_ok-hold.ensures.held c.loop-name.invariant.held;
}
