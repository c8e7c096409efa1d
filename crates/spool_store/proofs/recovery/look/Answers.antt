-- The listing, and then the rest.
use Rattle.spool_store.proofs.LooksLemmas.{looks_then}
use Rattle.spool_store.proofs.recovery.look.Goals as goal

pub returns-clause-looks : goal.returns-clause-looks
returns-clause-looks g c = looks_then _ _ _ c.in_ok-listed.listed _ c.in_ok-listed.ensures.looks c.look_into.ensures.looks
