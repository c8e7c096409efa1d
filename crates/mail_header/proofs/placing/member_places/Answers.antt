use Rattle.std.proofs.Common.{◌≡◌, IfOk, rules, subst, tests}
use Rattle.std.specs.Prelude.{filter_map}
use Rattle.std.specs.List.{slice_split}
use Rattle.std.specs.Vec.{vec_items}
use Rattle.std.proofs.lemmas.Iterator.{items_from_collect}
use Rattle.std.proofs.lemmas.Iterator.Consumers.{YieldsList-at, YieldsList-from_filter_map}
use Rattle.std.proofs.lemmas.Iterator.Splits.{YieldsList-from_slice_split}
use Rattle.mail_header.specs.Places.{is_comma, place_of}
use Rattle.mail_header.proofs.placing.member_places.Goals as goal

pub returns : goal.returns
returns c =
    let all = items_from_collect c.collect.result c.collect.ensures.ran
    (YieldsList-from_filter_map _ place_of
    (YieldsList-at c.filter_map.ensures.source (YieldsList-from_slice_split _ is_comma c.args.parts.now c.split.ensures.rest c.split.ensures.done c.split.ensures.closure (λ x b q k. search (rules, tests))))
    c.filter_map.ensures.closure (λ x r q k. search (rules, tests))) in
    subst (λ r. IfOk r (λ w. vec_items w ≡ filter_map place_of (slice_split is_comma c.args.parts.now))) c.in_ok-places.was all
