use Rattle.std.proofs.Common.{◌+◌, ◌∙◌, ℕ, List, ap, sym, arith}
use Rattle.std.proofs.lemmas.Bool.{eqb-true}
use Rattle.std.proofs.lemmas.List.{nil_from_length}
use Rattle.alias_expand.specs.inner.Cutting.{added}
use Rattle.alias_expand.proofs.JoinLemmas.{joined_all, joined_more}
use Rattle.alias_expand.proofs.lines.joined_lines.Goals as goal

pub lines-preserved : goal.lines-preserved
lines-preserved c =
    let few = c.lines.invariant.few in
    let shorter = c.split_lf-ended.ensures.shorter in
    record {
      so_far = joined_more c.lines.behind c.split_lf-ended.result.2 c.is_open-is_open.result c.lines.lines.items c.add.new.lines.items _ (c.lines.number + 1) c.lines.rest.now c.split_lf-ended.result.0.now c.split_lf-ended.result.1.now
          c.split_lf-ended.ensures.lines c.split_lf-ended.ensures.last c.is_open-is_open.ensures (c.in_ok-add.ensures ∙ ap (λ (t : List ℕ). added c.lines.behind (c.lines.number + 1) t c.lines.lines.items) c.part_of.ensures) c.lines.invariant.so_far;
      few = omega (arith, few, shorter);
    }

pub returns : goal.returns
returns c = joined_all c.lines.behind c.lines.lines.items _ (c.lines.number + 1) c.lines.rest.now (nil_from_length c.lines.rest.now (eqb-true _ _ (sym c.is_empty.ensures ∙ c.lines-test.false))) c.lines.invariant.so_far
