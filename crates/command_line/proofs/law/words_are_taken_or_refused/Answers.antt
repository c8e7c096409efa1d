use Rattle.command_line.proofs.CommandLemmas.{either, not_both, one_mode, one_place}
use Rattle.command_line.proofs.law.words_are_taken_or_refused.Goals as goal

pub returns-clause-each : goal.returns-clause-each
returns-clause-each c = λ words. either words

pub returns-clause-apart : goal.returns-clause-apart
returns-clause-apart c = λ words mode place line. not_both words mode place line

pub returns-clause-mode : goal.returns-clause-mode
returns-clause-mode c = λ words mode other is also. one_mode words mode other is also

pub returns-clause-place : goal.returns-clause-place
returns-clause-place c = λ words place other is also. one_place words place other is also
