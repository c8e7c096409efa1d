use Rattle.std.proofs.Common.{◌≡◌, map, rules, tests, not, ◌==◌, length, subst}
use Rattle.std.specs.Prelude.{IfOk}
use Rattle.std.specs.Vec.{vec_items}
use Rattle.std.proofs.lemmas.Iterator.Consumers.{map_from_collect, YieldsList-from_filter, YieldsList-at}
use Rattle.std.proofs.lemmas.Iterator.Splits.{YieldsList-from_slice_split}
use Rattle.mail_base.specs.Whites.{is_white}
use Rattle.mail_base.specs.Words as spec
use Rattle.mail_base.proofs.cutting.words.Goals as goal

pub returns : goal.returns
returns c =
    let all = map_from_collect c.collect.result c.collect.ensures.ran
    (YieldsList-from_filter _ (λ word. not (length word == 0))
    (YieldsList-at c.filter.ensures.source (YieldsList-from_slice_split _ is_white c.args.text.now c.split.ensures.rest c.split.ensures.done c.split.ensures.closure (λ x b q k. search (rules, tests))))
    c.filter.ensures.closure (λ x b q k. search (rules, tests))) in
    subst (λ r. IfOk r (λ w. map (λ x. x.now) (vec_items w) ≡ spec.words_of c.args.text.now)) c.in_ok-words.was all
