use Rattle.std.proofs.Common.{◌∙◌}
use Rattle.smtp_receive.proofs.StepLemmas.{mail_checked, mail_fault_is}
use Rattle.smtp_receive.proofs.session.Session.mail.Goals as goal

pub returns-in-None-clause-does : goal.returns-in-None-clause-does
returns-in-None-clause-does g c =
    mail_checked c.check_sender.result _ _ c.args.self.now c.check_sender.new.self c.args.config.now c.args.path.now c.args.size c.args.eight
    (mail_fault_is c.mail_fault.result c.is_some.result c.message_limit-limit.result c.args.self.now c.args.config.now c.args.size c.mail_fault.ensures c.is_some.ensures c.message_limit-limit.ensures ∙ c.in-None.is)
    c.check_sender.ensures.checks
