use Rattle.alias_expand.proofs.SomeLemmas.{some_outcome}
use Rattle.alias_expand.proofs.law.some_expansion.Goals as goal

pub returns : goal.returns
returns c = λ site files address sender. some_outcome site files (λ text leaf. c.some_route.ensures site.config site.maps site.macros text leaf) address sender
