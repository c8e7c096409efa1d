use Rattle.addr_route.proofs.OneLemmas.{one_checks}
use Rattle.addr_route.proofs.law.one_check.Goals as goal

pub returns : goal.returns
returns c = λ config maps macros set address one another r s. one_checks c.one_outcome.ensures config maps macros r s
