use Rattle.header_rewrite.proofs.LawLemmas.{one_header_is}
use Rattle.header_rewrite.proofs.law.one_header.Goals as goal

pub returns : goal.returns
returns c = λ site macros mailer header one another a b. one_header_is c.one_rewriting.ensures site macros mailer header one another a b
