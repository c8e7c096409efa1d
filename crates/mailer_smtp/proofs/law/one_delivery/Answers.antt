use Rattle.mailer_smtp.proofs.OneLemmas.{delivery_one}
use Rattle.mailer_smtp.proofs.law.one_delivery.Goals as goal

pub returns : goal.returns
returns c = λ speech letter peers missed now after events others fault flaw rows ends room h k e. delivery_one (record { whole = c.one_reply.ensures.whole; front = c.one_reply.ensures.front }) speech letter peers missed now after events others fault flaw rows ends room h k e
