use Rattle.smtp_lines.proofs.GivenLemmas.{given_first, given_first_unanswered, given_all}
use Rattle.smtp_lines.proofs.stream.given_lines_stand_first.Goals as goal

pub returns-clause-first : goal.returns-clause-first
returns-clause-first c = λ r s st grant more. given_first r s grant more st

pub returns-clause-unanswered : goal.returns-clause-unanswered
returns-clause-unanswered c = λ r s st. given_first_unanswered r s st

pub returns-clause-all : goal.returns-clause-all
returns-clause-all c = λ r s st nil more. given_all r s more st nil
