-- The shelf keeps its entries in order of id.
use Rattle.spool_store.specs.declared.held.Held.{Held}
use Rattle.spool_store.proofs.Shelving.{ascends_sorted}
use Rattle.spool_store.proofs.queue.Queue.entries.Goals as goal

pub returns-clause-ascending : goal.returns-clause-ascending
returns-clause-ascending c = ascends_sorted (λ (h : Held). h.entry.id) c.args.self.now.shelf.items c.items.ensures.ascending
