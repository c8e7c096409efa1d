-- One list after the other.
use Rattle.queue_table.proofs.AskedLemmas.{stoppable_first, stoppable_join, stoppable_later}
use Rattle.queue_table.proofs.asked_law.stops_of_steps_join.Goals as goal

pub returns-clause-joins : goal.returns-clause-joins
returns-clause-joins c = λ asked table some more h k. stoppable_join asked table some more h k

pub returns-clause-first : goal.returns-clause-first
returns-clause-first c = λ asked table some more h. stoppable_first asked table some more h

pub returns-clause-later : goal.returns-clause-later
returns-clause-later c = λ asked table some more h. stoppable_later asked table some more h
