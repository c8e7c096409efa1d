-- What was made ready.
use Rattle.spool_store.specs.Keepers.{seen}
use Rattle.tests_store.proofs.NextLemmas.{ready_under_ok}
use Rattle.tests_store.proofs.changes.ready_under.Goals as goal

pub returns-clause-ready : goal.returns-clause-ready
returns-clause-ready c = ready_under_ok c.prepare_under.result (seen c.prepare_under.new.self) (seen c.args.queue.now).entries c.args.children.now c.args.parent.now c.args.body c.requires.parent c.prepare_under.ensures.is
