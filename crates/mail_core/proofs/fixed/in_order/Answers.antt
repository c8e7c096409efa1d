-- They are sorted by their priorities and ids.
use Rattle.std.proofs.Common.{◌≡◌, rules, List, subst, map}
use Rattle.std.specs.List.Sorted.{IsPermutation}
use Rattle.std.proofs.lemmas.Fn.{always_returns_same}
use Rattle.std.proofs.lemmas.List.Sorted.{IsPermutation-map}
use Rattle.spool_store.specs.declared.held.Held.{Held}
use Rattle.mail_core.proofs.SortingLemmas.{at_now, goes_on, key_of}
use Rattle.mail_core.proofs.fixed.in_order.Goals as goal

pub returns-clause-same : goal.returns-clause-same
returns-clause-same c =
    subst (λ (hs : List Held). IsPermutation hs (map at_now c.sort_by_key.new.self.items)) c.in_ok-shown.ensures
    (IsPermutation-map at_now c.in_ok-shown.shown.items c.sort_by_key.new.self.items c.in_ok-sort_by_key.ensures.permutation)

pub returns-clause-order : goal.returns-clause-order
returns-clause-order c =
    goes_on c.sort_by_key.new.self.items
    (c.in_ok-sort_by_key.ensures.sorted (λ b. key_of b.now) (always_returns_same _ (λ a r. r ≡ key_of a.0.now.now) _ (λ a r f k. search rules)))
