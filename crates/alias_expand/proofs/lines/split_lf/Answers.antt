use Rattle.alias_expand.proofs.PieceLemmas.{first_line, last_line}
use Rattle.alias_expand.proofs.lines.split_lf.Goals as goal

pub returns-in-Some-clause-lines : goal.returns-in-Some-clause-lines
returns-in-Some-clause-lines c = first_line c.args.text.now c.in-Some.end c.in-Some.ensures

pub returns-in-None-clause-lines : goal.returns-in-None-clause-lines
returns-in-None-clause-lines c = last_line c.args.text.now c.in-None.ensures
