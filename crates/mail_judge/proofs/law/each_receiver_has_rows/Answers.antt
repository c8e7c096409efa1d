use Rattle.mail_judge.proofs.ReturnLemmas.{some_list}
use Rattle.mail_judge.proofs.law.each_receiver_has_rows.Goals as goal

pub returns : goal.returns
returns c = λ grounds files address. some_list c.some_expansion.ensures (λ site text leaf. c.some_route.ensures site.config site.maps site.macros text leaf) grounds files address
