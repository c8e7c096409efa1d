use Rattle.header_rewrite.proofs.LawLemmas.{some_header_is}
use Rattle.header_rewrite.proofs.law.some_header.Goals as goal

pub returns : goal.returns
returns c = λ site macros mailer header. some_header_is c.some_rewriting.ensures site macros mailer header
