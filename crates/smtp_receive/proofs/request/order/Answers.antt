use Rattle.smtp_lines.specs.Commands.{as_read}
use Rattle.smtp_lines.specs.Reading.{order_of}
use Rattle.smtp_lines.proofs.CommandLemmas.{one_read, order_read}
use Rattle.smtp_receive.proofs.request.order.Goals as goal

pub returns : goal.returns
returns c = one_read c.args.line.now (as_read c.command.result) (order_of c.args.line.now) c.command.ensures (order_read c.args.line.now)
