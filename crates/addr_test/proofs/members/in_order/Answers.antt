-- The closure compares texts byte by byte.
use Rattle.std.proofs.Common.{◌≡◌, rules, ◌∙◌}
use Rattle.std.specs.Ordering.{nat_cmp, is_lt}
use Rattle.std.specs.Cmp.Lexicographic.{slice_cmp, nat_list_cmp_total}
use Rattle.std.specs.List.Sorted.{IsSorted}
use Rattle.std.proofs.lemmas.Fn.{always_returns_same}
use Rattle.std.proofs.lemmas.List.Sorted.{ranks_by}
use Rattle.std.proofs.lemmas.List.Filters.{dedup_is}
use Rattle.addr_test.proofs.ListingLemmas.{sorted_once}
use Rattle.addr_test.proofs.members.in_order.Goals as goal

pub returns : goal.returns
returns c =
    let sorted : IsSorted (slice_cmp nat_cmp) c.sort_by.new.self.items =
    c.in_ok-sort_by.ensures.sorted (λ x y. is_lt (slice_cmp nat_cmp x y)) (ranks_by nat_list_cmp_total (λ x. x)) (always_returns_same _ (λ a r. is_lt r ≡ is_lt (slice_cmp nat_cmp a.0.now a.1.0.now)) _ (λ a r f k. (search rules, search rules))) in
    sorted_once c.args.texts.items c.sort_by.new.self.items c.from_vec.result c.in_ok-sort_by.ensures.permutation sorted (c.from_vec.ensures ∙ dedup_is _ _ _ c.dedup.ensures.filtered)
