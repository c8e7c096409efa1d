-- The closure gives an entry's id, and the slice is the shelf's entries.
use Rattle.std.proofs.Common.{rules}
use Rattle.std.proofs.lemmas.List.Sorted.{answers_always}
use Rattle.spool_store.proofs.Shelving.{found_at, absent_at}
use Rattle.spool_store.proofs.shelf.Shelf.search.Goals as goal

pub returns-clause-found : goal.returns-clause-found
returns-clause-found c =
    let facts = c.binary_search_by_key.ensures in
    let by_key = facts.position (λ h. h.entry.id) (answers_always _ _ _ (λ f a r g called. search rules)) in
    rw (← c.self.view_is, ← c.deref.ensures.value) (found_at _ c.args.id _ facts.bound by_key)

pub returns-clause-absent : goal.returns-clause-absent
returns-clause-absent c =
    let facts = c.binary_search_by_key.ensures in
    let by_key = facts.position (λ h. h.entry.id) (answers_always _ _ _ (λ f a r g called. search rules)) in
    rw (← c.self.view_is, ← c.deref.ensures.value) (absent_at _ c.args.id _ (rw c.deref.ensures.value c.self.invariant.1.0) facts.bound by_key)
