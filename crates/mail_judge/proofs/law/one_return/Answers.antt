use Rattle.mail_judge.proofs.ReturnLemmas.{one_list}
use Rattle.mail_judge.proofs.law.one_return.Goals as goal

pub returns : goal.returns
returns c = λ grounds files address one another a b. one_list c.one_expansion.ensures (λ site text leaf. c.one_route.ensures site.config site.maps site.macros text leaf) grounds files address one another a b
