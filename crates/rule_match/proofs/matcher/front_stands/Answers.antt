use Rattle.std.proofs.Common.{[], ◌+◌, ◌∷◌, ◌≡◌, List, drop, arith, sym, ◌∙◌, ap}
use Rattle.std.proofs.lemmas.List.{drop_more}
use Rattle.mail_base.specs.declared.rule.Item.{Item}
use Rattle.mail_base.specs.declared.token.Token.{Token}
use Rattle.rule_match.specs.Wants.{want, wants, lists_after}
use Rattle.rule_match.specs.inner.Steps.{front_stands}
use Rattle.rule_match.proofs.Fitting.{choosing_is, stands_behind}
use Rattle.rule_match.proofs.matcher.front_stands.Goals as goal

pub parted-requires : goal.parted-requires
parted-requires c = (c.in-Some.ensures.some []).within

pub loop-item-preserved : goal.loop-item-preserved
loop-item-preserved c =
    let item = c.item-item.result in
    let rest = drop (c.loop-item.item-index + 1) c.args.items.now in
    let classes = c.args.classes.now in
    let lists = c.loop-item.lists.now in
    let left = c.loop-item.left.now in
    let next = c.in-Some.ensures.some [] in
    let fixed = choosing_is classes lists item ∙ sym c.is_free.ensures ∙ c.if-is_free.false in
    let ahead : drop c.loop-item.item-index c.args.items.now ≡ item ∷ rest = drop_more c.args.items.now c.loop-item.item-index item (omega arith) ∙ ap (λ (i : Item). i ∷ rest) (sym c.item-item.is) in
    let behind = stands_behind (want classes lists item) (wants classes (lists_after item lists) rest) left c.in-Some.length fixed next.within next.met in
    ap (λ (ls : List (List Token)). front_stands (wants classes ls rest) c.parted.result.1.now) c.lists_after-lists.ensures
    ∙ ap (front_stands (wants classes (lists_after item lists) rest)) c.parted.ensures.back
    ∙ sym behind ∙ ap (λ items. front_stands (wants classes lists items) left) (sym ahead) ∙ c.loop-item.invariant
