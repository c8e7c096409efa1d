-- The parts so far are the first heirs.
use Rattle.std.proofs.Common.{◌≡◌, ◌+◌, ℕ, List, map, take}
use Rattle.spool_store.specs.Parts.{entry_of}
use Rattle.spool_store.specs.Writes.{heir, numbered}
use Rattle.spool_store.proofs.making.heirs.Given as goal

abbrev pub invariant-loop-draft : goal.invariant-loop-draft
invariant-loop-draft l = record {
  parts : (b : List ℕ) → map (entry_of b) l.parts ≡ numbered l.first b (map (heir l.parent) (take l.draft-index l.drafts));
  next : l.next ≡ l.first + l.draft-index;
}
