use Rattle.addr_route.proofs.OneLemmas.{one_routes}
use Rattle.addr_route.proofs.law.one_route.Goals as goal

pub returns : goal.returns
returns c = λ config maps macros address leaf one another r s. one_routes c.one_outcome.ensures config maps macros r s
