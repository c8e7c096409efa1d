use Rattle.addr_route.proofs.SomeLemmas.{some_routes}
use Rattle.addr_route.proofs.law.some_route.Goals as goal

pub returns : goal.returns
returns c = λ config maps macros address leaf. some_routes c.each_run_ends.ensures config maps macros address leaf
