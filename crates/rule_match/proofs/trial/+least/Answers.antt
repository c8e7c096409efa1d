use Rattle.std.proofs.Common.{arith, rules, sym, ◌∙◌, subst, ap, List, ℕ, ◌≡◌}
use Rattle.std.proofs.lemmas.Bool.{eqb-true}
use Rattle.std.proofs.lemmas.List.{nil_from_length}
use Rattle.rule_match.specs.Choices.{Chosen}
use Rattle.rule_match.specs.Kept.{kept_cuts}
use Rattle.rule_match.specs.Wants.{wants}
use Rattle.std.specs.Prelude.{count_by}
use Rattle.mail_base.specs.Metas.{is_meta}
use Rattle.rule_match.proofs.Going.{tried_none, tried_meta, tried_other, count_meta}
use Rattle.rule_match.proofs.trial.+least.Goals as goal
use Rattle.rule_match.proofs.trial.+least.Goals.{then-is_meta, else-is_meta}

pub returns-then-is_empty-clause-some : goal.returns-then-is_empty-clause-some
returns-then-is_empty-clause-some t c =
    tried_none c.args.classes.now c.args.late.now c.args.items.now c.args.left.now c.args.start c.new.result.items (nil_from_length _ c.in_default.ensures.cases) (nil_from_length _ (eqb-true _ _ (sym c.is_empty.ensures ∙ c.if-is_empty.true))) c.new.ensures

pub insert-requires : goal.insert-requires
insert-requires t c = omega (arith, c.in-Some-least.ensures.room, count_meta c.in-Some.item.now c.in-Some.after.now (sym c.is_meta.ensures ∙ c.if-is_meta.true), ap (count_by is_meta) c.in-Some.ensures.cases.0, c.requires.few)

pub returns-in-Some-least-clause-some : goal.returns-in-Some-least-clause-some
returns-in-Some-least-clause-some t c =
    elim c.if-is_meta.branch [
      | then-is_meta w ↦ subst (λ x. (lengths : List ℕ) × Chosen (wants c.args.classes.now c.args.late.now c.args.items.now) c.args.left.now lengths × (x ≡ kept_cuts c.args.items.now c.args.start lengths)) (search rules)
          (tried_meta c.args.classes.now c.args.late.now c.args.items.now c.in-Some.item.now c.in-Some.after.now c.in-Some.ensures.cases.0 _ c.lists_after-others.ensures c.args.left.now _ _ c.args.start c.loop-length.length c.parted.ensures.front c.parted.ensures.back (omega arith) (sym c.is_met.ensures ∙ c.if-is_met.true) c.loop-length.invariant c.in-Some-least.kept.items c.in-Some-least.ensures.some (search rules))
      | else-is_meta w ↦ subst (λ x. (lengths : List ℕ) × Chosen (wants c.args.classes.now c.args.late.now c.args.items.now) c.args.left.now lengths × (x ≡ kept_cuts c.args.items.now c.args.start lengths)) (search rules)
          (tried_other c.args.classes.now c.args.late.now c.args.items.now c.in-Some.item.now c.in-Some.after.now c.in-Some.ensures.cases.0 _ c.lists_after-others.ensures c.args.left.now _ _ c.args.start c.loop-length.length c.parted.ensures.front c.parted.ensures.back (omega arith) (sym c.is_met.ensures ∙ c.if-is_met.true) c.loop-length.invariant c.in-Some-least.kept.items c.in-Some-least.ensures.some (search rules))
    ]
