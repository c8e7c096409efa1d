-- The closure gives an entry's id.
use Rattle.std.proofs.Common.{rules}
use Rattle.std.proofs.lemmas.List.Sorted.{answers_always}
use Rattle.mail_core.proofs.ListLemmas.{absent_at, found_at}
use Rattle.mail_core.proofs.listing.place_of.Goals as goal

pub returns-clause-found : goal.returns-clause-found
returns-clause-found c =
    let facts = c.binary_search_by_key.ensures in
    let by_key = facts.position (λ h. h.entry.id) (answers_always _ _ _ (λ f a r g called. search rules)) in
    found_at _ c.args.id _ facts.bound by_key

pub returns-clause-absent : goal.returns-clause-absent
returns-clause-absent c =
    let facts = c.binary_search_by_key.ensures in
    let by_key = facts.position (λ h. h.entry.id) (answers_always _ _ _ (λ f a r g called. search rules)) in
    absent_at _ c.args.id _ c.requires.ascending facts.bound by_key
