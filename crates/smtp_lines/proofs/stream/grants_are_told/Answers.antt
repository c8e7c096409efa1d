use Rattle.smtp_lines.proofs.GivenLemmas.{after_given, after_none, after_refusal, after_grant}
use Rattle.smtp_lines.proofs.stream.grants_are_told.Goals as goal

pub returns-clause-gives : goal.returns-clause-gives
returns-clause-gives c = λ old new s told lines has stands turns. after_given old new s told lines has stands turns

pub returns-clause-refused : goal.returns-clause-refused
returns-clause-refused c = λ r s told has turned. after_refusal r s told has turned

pub returns-clause-unanswered : goal.returns-clause-unanswered
returns-clause-unanswered c = λ r s told has turns. after_none r s told has turns

pub returns-clause-granted : goal.returns-clause-granted
returns-clause-granted c = λ r s told has turned. after_grant r s told has turned
