use Rattle.addr_tokens.proofs.FrontLemmas.{run_read}
use Rattle.addr_tokens.proofs.front.run_of.Goals as goal

pub returns-clause-read : goal.returns-clause-read
returns-clause-read c = λ alphabet table. run_read c.args.place c.args.text.now _ c.word_length-size.result c.if-size-eq0.false c.word_length-size.ensures.within (c.word_length-size.ensures.rest alphabet table)
