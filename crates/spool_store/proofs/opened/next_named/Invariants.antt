-- Above those so far.
use Rattle.std.proofs.Common.{◌≡◌, ◌<◌, ◌⊎◌, ◌+◌, take, Contains}
use Rattle.spool_store.specs.declared.named.Named.{Named}
use Rattle.spool_store.proofs.opened.next_named.Given as goal

abbrev pub invariant-loop-x : goal.invariant-loop-x
invariant-loop-x l = record {
  above : (y : Named) → Contains (take l.x-index l.named) y → y.id < l.next;
  least : (l.next ≡ 1) ⊎ ((y : Named) × Contains l.named y × (l.next ≡ y.id + 1));
}
