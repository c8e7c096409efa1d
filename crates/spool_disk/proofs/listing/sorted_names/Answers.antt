-- The closure compares names byte by byte.
use Rattle.std.proofs.Common.{◌≡◌, rules, ◌∙◌}
use Rattle.std.specs.Ordering.{nat_cmp, is_lt}
use Rattle.std.specs.Cmp.Lexicographic.{slice_cmp}
use Rattle.std.specs.List.Sorted.{IsSorted}
use Rattle.std.specs.Cmp.Lexicographic.{nat_list_cmp_total}
use Rattle.std.proofs.lemmas.Fn.{always_returns_same}
use Rattle.std.proofs.lemmas.List.Sorted.{ranks_by}
use Rattle.std.proofs.lemmas.List.Filters.{dedup_is}
use Rattle.spool_disk.proofs.Naming.{sorted_once}
use Rattle.spool_disk.proofs.listing.sorted_names.Goals as goal

pub returns-clause-ascending : goal.returns-clause-ascending
returns-clause-ascending c =
    let sorted : IsSorted (slice_cmp nat_cmp) c.sort_by.new.self.items =
    c.in_ok-sort_by.ensures.sorted (λ x y. is_lt (slice_cmp nat_cmp x y)) (ranks_by nat_list_cmp_total (λ x. x)) (always_returns_same _ (λ a r. is_lt r ≡ is_lt (slice_cmp nat_cmp a.0.now a.1.0.now)) _ (λ a r f k. (search rules, search rules))) in
    (sorted_once c.args.names.items c.sort_by.new.self.items c.from_vec.result c.in_ok-sort_by.ensures.permutation sorted (c.from_vec.ensures ∙ dedup_is _ _ _ c.dedup.ensures.filtered)).0

pub returns-clause-same : goal.returns-clause-same
returns-clause-same c =
    let sorted : IsSorted (slice_cmp nat_cmp) c.sort_by.new.self.items =
    c.in_ok-sort_by.ensures.sorted (λ x y. is_lt (slice_cmp nat_cmp x y)) (ranks_by nat_list_cmp_total (λ x. x)) (always_returns_same _ (λ a r. is_lt r ≡ is_lt (slice_cmp nat_cmp a.0.now a.1.0.now)) _ (λ a r f k. (search rules, search rules))) in
    (sorted_once c.args.names.items c.sort_by.new.self.items c.from_vec.result c.in_ok-sort_by.ensures.permutation sorted (c.from_vec.ensures ∙ dedup_is _ _ _ c.dedup.ensures.filtered)).1
