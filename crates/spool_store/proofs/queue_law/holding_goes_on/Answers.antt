-- One lemma each.
use Rattle.spool_store.proofs.HoldingLemmas.{finish_holds, replace_holds, room_agrees, room_holds}
use Rattle.spool_store.proofs.ParcelLemmas.{commit_holds}
use Rattle.spool_store.proofs.UnderLemmas.{under_holds}
use Rattle.spool_store.proofs.queue_law.holding_goes_on.Goals as goal

pub returns-clause-commit : goal.returns-clause-commit
returns-clause-commit c = commit_holds

pub returns-clause-commit_under : goal.returns-clause-commit_under
returns-clause-commit_under c = under_holds

pub returns-clause-replace : goal.returns-clause-replace
returns-clause-replace c = replace_holds

pub returns-clause-finish : goal.returns-clause-finish
returns-clause-finish c = finish_holds

pub returns-clause-room : goal.returns-clause-room
returns-clause-room c = room_holds

pub returns-clause-agrees : goal.returns-clause-agrees
returns-clause-agrees c = room_agrees
