-- They are sorted by their ids.
use Rattle.std.proofs.Common.{rules, sym, subst, List}
use Rattle.std.specs.List.Sorted.{IsNonDecreasingBy}
use Rattle.std.proofs.lemmas.List.Sorted.{IsNonDecreasingBy-from_sort_by_key}
use Rattle.spool_store.specs.declared.named.Found.{Found}
use Rattle.spool_store.proofs.recovery.sorted.Goals as goal

pub returns-clause-order : goal.returns-clause-order
returns-clause-order c = subst (λ (xs : List Found). IsNonDecreasingBy (λ (x : Found). x.named.id) xs) (sym c.from_vec.ensures) (IsNonDecreasingBy-from_sort_by_key (λ x. x.named.id) _ c.sort_unstable_by_key.ensures.sorted (λ a r q k. search rules))
