use Rattle.std.specs.List.{flat_map}
use Rattle.addr_tokens.specs.Reader.{token_in}
use Rattle.addr_tokens.proofs.PlainLemmas.{plain_lexemes}
use Rattle.addr_tokens.proofs.law.lexemes_are_tokens.Goals as goal

pub returns : goal.returns
returns c = λ alphabet angles text lexemes plain a. (flat_map token_in lexemes, plain_lexemes alphabet angles text lexemes plain a)
