use Rattle.std.proofs.Common.{◌∙◌, rules, get_or, drop}
use Rattle.addr_tokens.proofs.FrontLemmas.{slash_front, closing_front}
use Rattle.addr_tokens.proofs.front.marked_of.Goals as goal

pub returns-in-92-clause-read : goal.returns-in-92-clause-read
returns-in-92-clause-read c = λ alphabet table. slash_front alphabet c.args.place c.args.text.now c.requires.some c.in-92.is ∙ c.run_of.ensures.read alphabet table

pub returns-in_default-clause-read : goal.returns-in_default-clause-read
returns-in_default-clause-read c = λ alphabet table. closing_front alphabet c.args.place (get_or c.args.text.now 0 0) (drop 1 c.args.text.now) c.requires.marked (search rules) (search rules) (search rules) (search rules)
