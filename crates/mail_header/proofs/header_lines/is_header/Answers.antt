use Rattle.std.proofs.Common.{◌∙◌}
use Rattle.mail_header.proofs.FoundLemmas.{header_at, header_none}
use Rattle.mail_header.proofs.header_lines.is_header.Goals as goal

pub returns-in-Some : goal.returns-in-Some
returns-in-Some c = c.is_header_by.ensures ∙ header_at c.args.line.now c.in-Some.end c.in-Some.ensures

pub returns-in-None : goal.returns-in-None
returns-in-None c = header_none c.args.line.now c.in-None.ensures
