-- One list after the other.
use Rattle.queue_table.proofs.AskedLemmas.{front_before, front_after, leaves_after, leaves_front}
use Rattle.queue_table.proofs.asked_law.files_of_steps_join.Goals as goal

pub returns-clause-before : goal.returns-clause-before
returns-clause-before c = λ asked dirs table some more files h. front_before asked dirs table some more files h

pub returns-clause-later : goal.returns-clause-later
returns-clause-later c = λ asked dirs table some more files h. front_after asked dirs table some more files h

pub returns-clause-leaves : goal.returns-clause-leaves
returns-clause-leaves c = λ asked dirs table some more well files h. leaves_after asked dirs table some more well files h

pub returns-clause-front : goal.returns-clause-front
returns-clause-front c = λ asked dirs table steps well files h. leaves_front asked dirs table steps well files h
