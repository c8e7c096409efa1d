-- The room takes its entry's place.
use Rattle.std.proofs.Common.{map, subst, sym}
use Rattle.spool_store.specs.Entries.{Table}
use Rattle.spool_store.specs.Keepers.{seen}
use Rattle.spool_store.specs.Stores.{Holds, recontrolled}
use Rattle.queue_table.specs.Calls.{LeadsTo, store}
use Rattle.queue_table.proofs.RecordLemmas.{holds_ok, record_by, record_can}
use Rattle.queue_table.proofs.table.Table.record.Goals as goal

pub replace-requires-clause-can : goal.replace-requires-clause-can
replace-requires-clause-can g c = record_can c.args.self.now.queue.shelf.dirs c.args.self.now.queue.shelf.items c.args.reserved c.args.self.now.terms c.args.outcomes.now.results c.args.moment _ _ _ c.entries-held.ensures.fit c.requires.reserved c.recorded-room.ensures.id c.recorded-room.ensures.paper c.recorded-room.ensures.control c.recorded-room.ensures.valid

pub returns-clause-moves : goal.returns-clause-moves
returns-clause-moves g c = λ table holds.
    let s = store c.args.self.now in
    let is = record_by s table c.args.reserved c.args.self.now.terms c.args.outcomes.now.results c.args.moment _ _ holds c.entries-held.ensures.ascending c.requires.reserved c.recorded-room.ensures.id c.recorded-room.ensures.control in
    subst (λ (t : Table). LeadsTo s.dirs table t c.replace.result (g.D.Spool.seen c.args.spool.now) (g.D.Spool.seen c.replace.new.spool)) (sym is) (c.replace.ensures.moves table holds)

pub returns-clause-holds : goal.returns-clause-holds
returns-clause-holds g c = λ table holds.
    let s = store c.args.self.now in
    let is = record_by s table c.args.reserved c.args.self.now.terms c.args.outcomes.now.results c.args.moment c.recorded-room.result.id c.recorded-room.result.control holds c.entries-held.ensures.ascending c.requires.reserved c.recorded-room.ensures.id c.recorded-room.ensures.control in
    holds_ok c.replace.result (seen c.replace.new.self) (record s { entries = map (recontrolled c.recorded-room.result.id c.recorded-room.result.control) s.entries }) _ c.replace.ensures.ok
    (subst (Holds (record s { entries = map (recontrolled c.recorded-room.result.id c.recorded-room.result.control) s.entries })) (sym is) (c.holding_goes_on.ensures.replace s table c.recorded-room.result.id c.recorded-room.result.control holds))
