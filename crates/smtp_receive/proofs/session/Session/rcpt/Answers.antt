use Rattle.std.proofs.Common.{◌∙◌}
use Rattle.mail_base.specs.Limits.{message_limit}
use Rattle.smtp_receive.proofs.StepLemmas.{rcpt_checked, rcpt_fault_is}
use Rattle.smtp_receive.proofs.session.Session.rcpt.Goals as goal

pub returns-in-None-clause-does : goal.returns-in-None-clause-does
returns-in-None-clause-does g c =
    rcpt_checked c.check_recipient.result _ _ c.args.self.now c.check_recipient.new.self c.args.config.now c.args.path.now
    (rcpt_fault_is c.rcpt_fault.result c.is_some.result c.recipient_limit-limit.result c.args.self.now c.args.config.now c.args.path.now c.rcpt_fault.ensures c.is_some.ensures c.recipient_limit-limit.ensures ∙ c.in-None.is)
    (c.check_recipient.ensures.checks (message_limit c.args.config.now.options))
