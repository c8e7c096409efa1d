use Rattle.mail_header.specs.Headers.{text_of}
use Rattle.mail_header.proofs.GrammarLemmas.{one_split, split_of_lines}
use Rattle.mail_header.proofs.SizeLemmas.{ended_size}
use Rattle.smtp_receive.proofs.law.lines_are_split_by_the_grammar.Goals as goal

pub returns-clause-split : goal.returns-clause-split
returns-clause-split c = λ lines split are is. one_split (text_of lines) split _ is (split_of_lines lines are)

pub returns-clause-size : goal.returns-clause-size
returns-clause-size c = λ lines. ended_size lines
