use Rattle.smtp_lines.proofs.PathLemmas.{parts_end, parts_found, parts_none, none_found, one_end}
use Rattle.smtp_lines.proofs.command_law.one_path.Goals as goal

pub returns-clause-some : goal.returns-clause-some
returns-clause-some c = λ text parts. (parts_end text parts, parts_found text parts)

pub returns-clause-none : goal.returns-clause-none
returns-clause-none c = λ text. (parts_none text, none_found text)

pub returns-clause-one : goal.returns-clause-one
returns-clause-one c = λ text one other a b. one_end text one other a b
