-- The entries so far.
use Rattle.std.proofs.Common.{◌≡◌, map}
use Rattle.spool_store.specs.inner.Opening.{taken_over}
use Rattle.spool_store.proofs.shelf.all_held.Given as goal

abbrev pub invariant-loop-entry : goal.invariant-loop-entry
invariant-loop-entry l = l.held.items ≡ map taken_over l.yielded
