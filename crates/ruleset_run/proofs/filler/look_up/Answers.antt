use Rattle.std.proofs.Common.{sym, ◌∙◌}
use Rattle.ruleset_run.proofs.LookLemmas.{look_class, look_none, look_value, look_unscanned, look_key, look_default}
use Rattle.ruleset_run.proofs.filler.look_up.Goals as goal

pub returns-in-Some-clause-looks : goal.returns-in-Some-clause-looks
returns-in-Some-clause-looks c = λ found is.
    let a = c.args in
    let same = c.in_ok-key.ensures.same in
    let later = c.in_ok-args.ensures.same in
    let key_is = rw c.items.ensures at (c.in_ok-key.ensures.tokens found is) in
    let texts_are = rw c.items-2.ensures at (c.in_ok-args.ensures.texts found is) in
    look_value a.maps.now a.values.now c.tokens_of.new.values c.texts_of.new.values a.query.now.name found a.query.now.key a.query.now.args a.query.now.fallback same later c.in_ok-key.key key_is c.in_ok-args.args texts_are c.in_ok-text.text c.in_ok-text.ensures
    c.lookup.new.self c.in-Ok-Value.ensures.after c.in-Ok-Value.answer (rw c.in-Ok-Value.field-0-is at c.in-Ok-Value.ensures.answer) c.in-Some.tokens (sym c.in-Some.is ∙ c.in_ok-tokens-in-Ok-Value.ensures)

pub returns-in-Ok-Value-clause-looks : goal.returns-in-Ok-Value-clause-looks
returns-in-Ok-Value-clause-looks c = λ found is.
    let a = c.args in
    let same = c.in_ok-key.ensures.same in
    let later = c.in_ok-args.ensures.same in
    let key_is = rw c.items.ensures at (c.in_ok-key.ensures.tokens found is) in
    let texts_are = rw c.items-2.ensures at (c.in_ok-args.ensures.texts found is) in
    look_unscanned a.maps.now a.values.now c.tokens_of.new.values c.texts_of.new.values a.query.now.name found a.query.now.key a.query.now.args a.query.now.fallback same later c.in_ok-key.key key_is c.in_ok-args.args texts_are c.in_ok-text.text c.in_ok-text.ensures
    c.lookup.new.self c.in-Ok-Value.ensures.after c.in-Ok-Value.answer (rw c.in-Ok-Value.field-0-is at c.in-Ok-Value.ensures.answer) (sym c.in-None.is ∙ c.in_ok-tokens-in-Ok-Value.ensures)

pub returns-in-Some-fallback-clause-looks : goal.returns-in-Some-fallback-clause-looks
returns-in-Some-fallback-clause-looks c = λ found is.
    let a = c.args in
    let same = c.in_ok-key.ensures.same in
    let later = c.in_ok-args.ensures.same in
    let key_is = rw c.items.ensures at (c.in_ok-key.ensures.tokens found is) in
    let texts_are = rw c.items-2.ensures at (c.in_ok-args.ensures.texts found is) in
    let more_are = rw c.items-in-Some-fallback.ensures at (c.in_ok-tokens_of-in-Some-fallback.ensures.tokens found is) in
    look_default a.maps.now a.values.now c.tokens_of.new.values c.texts_of.new.values a.query.now.name found a.query.now.key a.query.now.args a.query.now.fallback same later c.in_ok-key.key key_is c.in_ok-args.args texts_are c.in_ok-text.text c.in_ok-text.ensures
    c.lookup.new.self c.in-Ok-Absent.ensures.after (rw c.in-Ok-Absent.field-0-is at c.in-Ok-Absent.ensures.answer) c.in-Some-fallback.pieces c.in-Some-fallback.is _ _ c.in_ok-tokens_of-in-Some-fallback.ensures.same more_are

pub returns-in-Ok-Absent-clause-looks : goal.returns-in-Ok-Absent-clause-looks
returns-in-Ok-Absent-clause-looks c = λ found is.
    let a = c.args in
    let same = c.in_ok-key.ensures.same in
    let later = c.in_ok-args.ensures.same in
    let key_is = rw c.items.ensures at (c.in_ok-key.ensures.tokens found is) in
    let texts_are = rw c.items-2.ensures at (c.in_ok-args.ensures.texts found is) in
    look_key a.maps.now a.values.now c.tokens_of.new.values c.texts_of.new.values a.query.now.name found a.query.now.key a.query.now.args a.query.now.fallback same later c.in_ok-key.key key_is c.in_ok-args.args texts_are c.in_ok-text.text c.in_ok-text.ensures
    c.lookup.new.self c.in-Ok-Absent.ensures.after (rw c.in-Ok-Absent.field-0-is at c.in-Ok-Absent.ensures.answer) c.in-None-fallback.is

pub returns-in-Err-MapClass-clause-looks : goal.returns-in-Err-MapClass-clause-looks
returns-in-Err-MapClass-clause-looks c = λ found is.
    let a = c.args in
    let same = c.in_ok-key.ensures.same in
    let later = c.in_ok-args.ensures.same in
    let key_is = rw c.items.ensures at (c.in_ok-key.ensures.tokens found is) in
    let texts_are = rw c.items-2.ensures at (c.in_ok-args.ensures.texts found is) in
    look_class a.maps.now a.values.now c.tokens_of.new.values c.texts_of.new.values a.query.now.name found a.query.now.key a.query.now.args a.query.now.fallback same later c.in_ok-key.key key_is c.in_ok-args.args texts_are c.in_ok-text.text c.in_ok-text.ensures
    (rw c.in-Err-MapClass.field-0-is at c.in-Err-MapClass.ensures.answer) _ c.in_ok-copy-in-Err-MapClass.ensures

pub returns-in-Err-NoSuchMap-clause-looks : goal.returns-in-Err-NoSuchMap-clause-looks
returns-in-Err-NoSuchMap-clause-looks c = λ found is.
    let a = c.args in
    let same = c.in_ok-key.ensures.same in
    let later = c.in_ok-args.ensures.same in
    let key_is = rw c.items.ensures at (c.in_ok-key.ensures.tokens found is) in
    let texts_are = rw c.items-2.ensures at (c.in_ok-args.ensures.texts found is) in
    look_none a.maps.now a.values.now c.tokens_of.new.values c.texts_of.new.values a.query.now.name found a.query.now.key a.query.now.args a.query.now.fallback same later c.in_ok-key.key key_is c.in_ok-args.args texts_are c.in_ok-text.text c.in_ok-text.ensures
    (rw c.in-Err-NoSuchMap.field-0-is at c.in-Err-NoSuchMap.ensures.answer) _ c.in_ok-copy-in-Err-NoSuchMap.ensures
