-- They are in order of id.
use Rattle.std.proofs.Common.{ltb, ltb-true, ltb-false, arith, rules}
use Rattle.std.proofs.lemmas.List.Sorted.{IsPartitionPoint-from_clause, IsPartitionedBy-ltb}
use Rattle.spool_store.specs.declared.named.Found.{Found}
use Rattle.spool_store.proofs.judged.first_found.Goals as goal

pub returns-clause-before : goal.returns-clause-before
returns-clause-before c =
    let point = IsPartitionPoint-from_clause (λ (x : Found). ltb x.named.id c.args.id) c.args.found.now c.partition_point.result c.partition_point.ensures.partitioned (IsPartitionedBy-ltb (λ (x : Found). x.named.id) c.args.found.now c.args.id c.requires.order) (λ a r q k. search rules) in
    λ k d lt. ltb-true _ _ (point.0 k d (omega arith) lt)

pub returns-clause-from : goal.returns-clause-from
returns-clause-from c =
    let point = IsPartitionPoint-from_clause (λ (x : Found). ltb x.named.id c.args.id) c.args.found.now c.partition_point.result c.partition_point.ensures.partitioned (IsPartitionedBy-ltb (λ (x : Found). x.named.id) c.args.found.now c.args.id c.requires.order) (λ a r q k. search rules) in
    λ k d le lt. ltb-false _ _ (point.1 k d le lt)
