use Rattle.qf_format.proofs.FieldLemmas.{line_at, no_line}
use Rattle.qf_format.proofs.field.line_of.Goals as goal

pub returns-in-Some : goal.returns-in-Some
returns-in-Some c = rw (c.split_end.ensures.text, c.split_end.ensures.rest) (line_at c.args.bytes.now c.in-Some.at c.in-Some.ensures)

pub returns-in-None : goal.returns-in-None
returns-in-None c = no_line c.args.bytes.now c.in-None.ensures
