use Rattle.std.proofs.Common.{false}
use Rattle.std.proofs.lemmas.List.{take_rest}
use Rattle.addr_tokens.specs.Reader.{past_quote}
use Rattle.addr_tokens.proofs.FrontLemmas.{quote_piece}
use Rattle.addr_tokens.proofs.front.quotation_of.Goals as goal

pub returns-in-Closed-clause-read : goal.returns-in-Closed-clause-read
returns-in-Closed-clause-read c = quote_piece c.args.text.now _ c.in-Closed.size c.args.place (past_quote false) (take_rest c.args.text.now 1) c.requires.some c.in-Closed.ensures.within c.in-Closed.ensures.ends
