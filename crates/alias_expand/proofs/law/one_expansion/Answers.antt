use Rattle.alias_expand.proofs.OneLemmas.{one_outcome}
use Rattle.alias_expand.proofs.law.one_expansion.Goals as goal

pub returns : goal.returns
returns c = λ site files address sender one another a b. one_outcome site files (λ text leaf. c.one_route.ensures site.config site.maps site.macros text leaf) address sender one another a b
