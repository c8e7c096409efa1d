use Rattle.std.proofs.Common.{◌≡◌, map, rules, tests, subst}
use Rattle.std.specs.Prelude.{IfOk}
use Rattle.std.specs.Vec.{vec_items}
use Rattle.std.proofs.lemmas.Iterator.Consumers.{map_from_collect}
use Rattle.std.proofs.lemmas.Iterator.Splits.{YieldsList-from_slice_split}
use Rattle.addr_test.specs.Forms.{is_comma, names_in}
use Rattle.addr_test.proofs.words.name_slices.Goals as goal

pub returns : goal.returns
returns c =
    let all = map_from_collect c.collect.result c.collect.ensures.ran
    (YieldsList-from_slice_split _ is_comma c.args.sets.now c.split.ensures.rest c.split.ensures.done c.split.ensures.closure (λ x b q k. search (rules, tests))) in
    subst (λ r. IfOk r (λ w. map (λ x. x.now) (vec_items w) ≡ names_in c.args.sets.now)) c.in_ok-slices.was all
