use Rattle.addr_route.proofs.OneLemmas.{one_sends}
use Rattle.addr_route.proofs.law.one_sender.Goals as goal

pub returns : goal.returns
returns c = λ config maps macros mailer sender one another r s. one_sends c.one_outcome.ensures config maps macros r s
