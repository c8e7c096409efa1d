-- What the names so far add.
use Rattle.std.proofs.Common.{take}
use Rattle.spool_store.specs.inner.Finds.{AddsStrays}
use Rattle.spool_store.proofs.listed.add_strays.Given as goal

abbrev pub invariant-loop-name : goal.invariant-loop-name
invariant-loop-name l = record { adds : AddsStrays l.dir (take l.name-index l.names) l.fn.out l.out }
