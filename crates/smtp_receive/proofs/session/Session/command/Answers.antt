use Rattle.std.proofs.Common.{sym}
use Rattle.mail_base.specs.Limits.{message_limit}
use Rattle.smtp_lines.specs.Commands.{Mail, Rcpt}
use Rattle.smtp_lines.specs.Reading.{order_of}
use Rattle.smtp_receive.proofs.PathLemmas.{order_is_line}
use Rattle.smtp_receive.proofs.StepLemmas.{data_does}
use Rattle.smtp_receive.proofs.session.Session.command.Goals as goal

pub mail-requires : goal.mail-requires
mail-requires g c =
    order_is_line c.args.line.now (Mail c.in-Ok-Mail.path.now c.in-Ok-Mail.size c.in-Ok-Mail.eight) (sym (rw c.in-Ok-Mail.field-0-is at c.in-Ok-Mail.ensures))

pub rcpt-requires : goal.rcpt-requires
rcpt-requires g c = order_is_line c.args.line.now (Rcpt c.in-Ok-Rcpt.path.now) (sym (rw c.in-Ok-Rcpt.field-0-is at c.in-Ok-Rcpt.ensures))

pub returns-in-Ok-Data-clause-does : goal.returns-in-Ok-Data-clause-does
returns-in-Ok-Data-clause-does g c =
    data_does c.judged-in-Ok-Data.result c.begin_data.result _ _ c.args.self.now c.begin_data.new.self c.args.config.now (order_of c.args.line.now) c.judged-in-Ok-Data.ensures.is
    (sym (rw c.in-Ok-Data.field-0-is at c.in-Ok-Data.ensures)) (c.begin_data.ensures.did (message_limit c.args.config.now.options)) c.begin_data.ensures.refused c.begin_data.ensures.ok
