-- What the names so far add.
use Rattle.std.proofs.Common.{take}
use Rattle.spool_store.specs.inner.Finds.{AddsNamed}
use Rattle.spool_store.proofs.listed.add_named.Given as goal

abbrev pub invariant-loop-name : goal.invariant-loop-name
invariant-loop-name l = record { adds : AddsNamed l.dir (take l.name-index l.names) l.fn.out l.out }
