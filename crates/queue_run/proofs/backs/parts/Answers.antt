-- Rows are drawn for an address.
use Rattle.std.proofs.Common.{sym, subst}
use Rattle.mail_base.specs.Texts.{IsAddress}
use Rattle.queue_run.proofs.BackLemmas.{drawn_form}
use Rattle.queue_run.proofs.backs.parts.Goals as goal

pub draw-requires : goal.draw-requires
draw-requires g c = subst IsAddress (sym c.in_ok-address.ensures) (drawn_form c.args.config.now c.args.control.now)
