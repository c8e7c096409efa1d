-- What is kept is what has another number, and that is fewer where the number was there.
use Rattle.std.proofs.Common.{rules, ◌+◌, ◌≤◌, length, subst, sym}
use Rattle.std.specs.Prelude.{ℕ, List, not, nat_eq}
use Rattle.std.proofs.lemmas.Fn.{filter_same}
use Rattle.spawn_edge.proofs.Leaving.{without_fewer}
use Rattle.spawn_edge.proofs.telling.leave.Goals as goal

pub returns-clause-without : goal.returns-clause-without
returns-clause-without c = filter_same _ (λ (other : ℕ). not (nat_eq other c.args.child)) _ (λ x b f h. (search rules, search rules)) _ _ c.retain.ensures.filtered

pub returns-clause-one_less : goal.returns-clause-one_less
returns-clause-one_less c there =
    let kept = filter_same _ (λ (other : ℕ). not (nat_eq other c.args.child)) _ (λ x b f h. (search rules, search rules)) _ _ c.retain.ensures.filtered in
    let P : List ℕ → Type 0 = λ xs. length xs + 1 ≤ length c.args.children.now.items in
    subst P (sym kept) (without_fewer c.args.child c.args.children.now.items there)
