-- The next control takes the entry's place.
use Rattle.spool_store.specs.Keepers.{seen}
use Rattle.tests_store.proofs.NextLemmas.{can_replace}
use Rattle.tests_store.proofs.changes.next_room.Goals as goal

pub returns : goal.returns
returns c = can_replace (seen c.args.queue.now) c.args.id c.in_ok-room.room.id c.saturating_add-room.result c.in_ok-room.room.control c.in_ok-room.room.paper c.entries-held.ensures.fit c.requires.entry c.in_ok-room.ensures.id c.in_ok-room.ensures.control c.in_ok-room.ensures.paper c.saturating_add-room.ensures
