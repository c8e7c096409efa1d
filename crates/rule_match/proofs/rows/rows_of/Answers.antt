use Rattle.std.proofs.Common.{◌≡◌, List, [], ◌∷◌, ◌++◌, true, false, length, drop, arith, sym, ◌∙◌, ap, subst}
use Rattle.std.specs.Prelude.{count_by}
use Rattle.std.proofs.lemmas.List.{append-nil, append_assoc, length_push, take_rest}
use Rattle.mail_base.specs.declared.token.Token.{Token}
use Rattle.mail_base.specs.Metas.{is_meta}
use Rattle.rule_match.specs.Wants.{want, wants, lists_after}
use Rattle.rule_match.specs.inner.Rows.{IsRow, AreRows, no_item, fixed, choosing}
use Rattle.rule_match.specs.inner.Steps.{is_choosing}
use Rattle.rule_match.proofs.Fitting.{choosing_is}
use Rattle.rule_match.proofs.Rowing.{row_first, free_meta, count_last, count_before, lists_last, lists_next}
use Rattle.rule_match.proofs.rows.rows_of.Goals as goal

pub loop-item-init : goal.loop-item-init
loop-item-init g c = record {
  done = [];
  items = sym (append-nil c.args.items.now);
  lists = c.requires.lists;
  few = omega arith;
  row = row_first c.args.tokens.now c.new-row.result c.set.new.self c.new-row.ensures c.set.ensures;
  rows = subst (AreRows c.args.tokens.now []) (sym c.new-rows.ensures) no_item;
  room = omega (arith, ap length c.new-rows.ensures, c.requires.few);
}

pub loop-item-preserved-then-is_free : goal.loop-item-preserved-then-is_free
loop-item-preserved-then-is_free g c =
    let i = c.loop-item.invariant in
    let item = c.in-Some.item.now in
    let last = c.in-Some.ensures.cases.0 in
    let classes = c.args.classes.now in
    let late = c.args.late.now in
    let lists = c.lists_before-lists.result in
    let free = sym c.is_free.ensures ∙ c.if-is_free.true in
    let chooses : is_choosing (want classes (drop lists late) item) ≡ true = choosing_is classes (drop lists late) item ∙ free in
    let count = lists_last item c.in-Some.before.now c.loop-item.left.now c.loop-item.lists lists last i.lists c.lists_before-lists.ensures in
    let same : lists_after item (drop lists late) ≡ drop c.loop-item.lists late = lists_next item late c.loop-item.lists lists count.1 in
    let next = subst (λ (xs : List (List Token)). IsRow c.args.tokens.now (want classes xs item ∷ wants classes (drop c.loop-item.lists late) i.done) c.row_before-next.result) (take_rest late lists) (c.row_before-next.ensures (wants classes (drop c.loop-item.lists late) i.done) i.row) in
    let olders = subst (λ (xs : List (List Token)). AreRows c.args.tokens.now (wants classes xs i.done) c.loop-item.rows.items) (sym same) i.rows in
    record {
      done = item ∷ i.done;
      items = i.items ∙ ap (λ xs. xs ++ i.done) last ∙ append_assoc c.in-Some.before.now (item ∷ []) i.done;
      lists = count.0;
      few = omega (arith, count.1, i.few);
      row = subst (λ (xs : List (List Token)). IsRow c.args.tokens.now (want classes (drop lists late) item ∷ wants classes xs i.done) c.row_before-next.result) (sym same) next;
      rows = choosing (want classes (drop lists late) item) (wants classes (lists_after item (drop lists late)) i.done) c.loop-item.row c.loop-item.rows.items _ chooses
          (subst (λ (xs : List (List Token)). IsRow c.args.tokens.now (wants classes xs i.done) c.loop-item.row) (sym same) i.row) olders c.push.ensures.items;
      room = omega (arith, i.room, ap length c.push.ensures.items ∙ length_push c.loop-item.rows.items c.loop-item.row, ap (count_by is_meta) last, count_last item c.in-Some.before.now (free_meta item free));
    }

pub loop-item-preserved : goal.loop-item-preserved
loop-item-preserved g c =
    let i = c.loop-item.invariant in
    let item = c.in-Some.item.now in
    let last = c.in-Some.ensures.cases.0 in
    let classes = c.args.classes.now in
    let late = c.args.late.now in
    let lists = c.lists_before-lists.result in
    let free = sym c.is_free.ensures ∙ c.if-is_free.false in
    let chooses : is_choosing (want classes (drop lists late) item) ≡ false = choosing_is classes (drop lists late) item ∙ free in
    let count = lists_last item c.in-Some.before.now c.loop-item.left.now c.loop-item.lists lists last i.lists c.lists_before-lists.ensures in
    let same : lists_after item (drop lists late) ≡ drop c.loop-item.lists late = lists_next item late c.loop-item.lists lists count.1 in
    let next = subst (λ (xs : List (List Token)). IsRow c.args.tokens.now (want classes xs item ∷ wants classes (drop c.loop-item.lists late) i.done) c.row_before-next.result) (take_rest late lists) (c.row_before-next.ensures (wants classes (drop c.loop-item.lists late) i.done) i.row) in
    let olders = subst (λ (xs : List (List Token)). AreRows c.args.tokens.now (wants classes xs i.done) c.loop-item.rows.items) (sym same) i.rows in
    record {
      done = item ∷ i.done;
      items = i.items ∙ ap (λ xs. xs ++ i.done) last ∙ append_assoc c.in-Some.before.now (item ∷ []) i.done;
      lists = count.0;
      few = omega (arith, count.1, i.few);
      row = subst (λ (xs : List (List Token)). IsRow c.args.tokens.now (want classes (drop lists late) item ∷ wants classes xs i.done) c.row_before-next.result) (sym same) next;
      rows = fixed (want classes (drop lists late) item) (wants classes (lists_after item (drop lists late)) i.done) c.loop-item.rows.items chooses olders;
      room = omega (arith, i.room, ap (count_by is_meta) last, count_before item c.in-Some.before.now);
    }
