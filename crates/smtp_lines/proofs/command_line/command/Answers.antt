use Rattle.std.proofs.Common.{sym, subst}
use Rattle.smtp_lines.specs.Commands.{IsRead}
use Rattle.smtp_lines.proofs.CommandLemmas.{order_read}
use Rattle.smtp_lines.proofs.command_line.command.Goals as goal

pub returns : goal.returns
returns c = subst (IsRead c.args.line.now) (sym c.read_command.ensures) (order_read c.args.line.now)
