-- Place by place.
use Rattle.queue_table.specs.Calls.{store}
use Rattle.queue_table.proofs.HoldingLemmas.{held_in, stored_in}
use Rattle.queue_table.proofs.StayLemmas.{has_entry, has_id}
use Rattle.queue_table.proofs.law.the_store_has_what_the_table_has.Goals as goal

pub returns-clause-held : goal.returns-clause-held
returns-clause-held c = λ kept table s holds k. held_in (store kept).entries table.entries s holds.entries k

pub returns-clause-stored : goal.returns-clause-stored
returns-clause-stored c = λ kept table h holds k. stored_in (store kept).entries table.entries h holds.entries k

pub returns-clause-has_id : goal.returns-clause-has_id
returns-clause-has_id c = λ kept table id holds has. has_id kept table id holds has

pub returns-clause-has_entry : goal.returns-clause-has_entry
returns-clause-has_entry c = λ kept table id holds has. has_entry kept table id holds has
