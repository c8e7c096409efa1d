-- The order goes by priorities, and then by ids.
use Rattle.queue_table.proofs.OrderLemmas.{not_itself, goes_on, one_first}
use Rattle.queue_table.proofs.law.entries_are_ordered.Goals as goal

pub returns-clause-apart : goal.returns-clause-apart
returns-clause-apart c = λ a h. not_itself a.control.priority a.id h

pub returns-clause-follows : goal.returns-clause-follows
returns-clause-follows c = λ a b d h k. goes_on a.control.priority b.control.priority d.control.priority a.id b.id d.id h k

pub returns-clause-total : goal.returns-clause-total
returns-clause-total c = λ a b apart. one_first a.control.priority b.control.priority a.id b.id apart
