use Rattle.std.proofs.Common.{None, ap, false}
use Rattle.smtp_receive.proofs.KeepLemmas.{stands_reset, stands_ended}
use Rattle.smtp_receive.proofs.session.Session.reset.Goals as goal

pub returns-clause-stands : goal.returns-clause-stands
returns-clause-stands c =
    λ config host peer heard line said k kept.
    stands_reset c.args.self.now _ config host peer heard line said k kept (ap (λ rows. record c.args.self.now { sender = None; eight = false; rows = rows; count = 0; message = None }) c.new.ensures)

pub returns-clause-ended : goal.returns-clause-ended
returns-clause-ended c =
    λ config host peer heard said says was is earlier later k.
    stands_ended c.args.self.now _ config host peer heard said says was is earlier later k
    (ap (λ rows. record c.args.self.now { sender = None; eight = false; rows = rows; count = 0; message = None }) c.new.ensures)
