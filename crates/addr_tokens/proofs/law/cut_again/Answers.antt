use Rattle.addr_tokens.proofs.AgainLemmas.{spaced_again, close_again, only_apart}
use Rattle.addr_tokens.proofs.law.cut_again.Goals as goal

pub returns-clause-spaced : goal.returns-clause-spaced
returns-clause-spaced c = λ operators angles text tokens white a is. spaced_again operators angles text tokens white a is

pub returns-clause-close : goal.returns-clause-close
returns-clause-close c = λ operators angles text tokens a none. close_again operators angles text tokens a none

pub returns-clause-only : goal.returns-clause-only
returns-clause-only c = λ operators angles tokens a. only_apart operators angles tokens a
