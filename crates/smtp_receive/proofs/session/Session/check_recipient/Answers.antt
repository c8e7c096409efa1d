use Rattle.smtp_receive.proofs.StepLemmas.{recipient_checks}
use Rattle.smtp_receive.proofs.session.Session.check_recipient.Goals as goal

pub returns-in-Ok-clause-checks : goal.returns-in-Ok-clause-checks
returns-in-Ok-clause-checks g c =
    λ limit.
    recipient_checks c.judged.result c.take_verdict.result _ _ c.args.self.now c.take_verdict.new.self limit c.args.path.now c.in-Ok.verdict c.judged.ensures.is c.in-Ok.ensures.answers
    (c.take_verdict.ensures.did limit) c.take_verdict.ensures.ok
