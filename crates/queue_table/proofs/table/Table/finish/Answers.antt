-- The store holds the same table.
use Rattle.std.proofs.Common.{map}
use Rattle.spool_store.specs.Keepers.{seen}
use Rattle.spool_store.specs.Stores.{refinished}
use Rattle.queue_table.specs.Calls.{store}
use Rattle.queue_table.proofs.RecordLemmas.{holds_ok}
use Rattle.queue_table.proofs.table.Table.finish.Goals as goal

pub returns-clause-holds : goal.returns-clause-holds
returns-clause-holds g c = λ table holds.
    let s = store c.args.self.now in
    holds_ok c.finish.result (seen c.finish.new.self) (record s { entries = map (refinished c.args.id.now) s.entries }) table c.finish.ensures.ok (c.holding_goes_on.ensures.finish s table c.args.id.now holds)
