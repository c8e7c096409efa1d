use Rattle.std.proofs.Common.{◌^◌}
use Rattle.std.proofs.lemmas.Result.{IfOk-weaker}
use Rattle.mail_header.proofs.PlaceLemmas.{pieces_fit, places_are, places_apart}
use Rattle.mail_header.proofs.placing.places_behind.Goals as goal

pub parts_of-requires : goal.parts_of-requires
parts_of-requires c = pieces_fit c.args.before c.args.value.now c.items.result.now c.in-Ok.pieces c.items.ensures c.in-Ok.ensures.spans (2 ^ 64) c.requires

pub returns-in_ok-parts-in-Ok-clause-places : goal.returns-in_ok-parts-in-Ok-clause-places
returns-in_ok-parts-in-Ok-clause-places c =
    IfOk-weaker c.places_in.result _ _
    (places_are c.args.before c.args.value.now c.items.result.now c.in-Ok.pieces c.items.ensures c.in-Ok.ensures.spans c.in_ok-parts-in-Ok.parts c.items-in-Ok.result.now c.in_ok-parts-in-Ok.ensures c.items-in-Ok.ensures
    ((c.spans_computed.ensures.spans _ _ _ _).1 c.in-Ok.ensures.spans)) c.places_in.ensures

pub returns-in_ok-parts-in-Ok-clause-apart : goal.returns-in_ok-parts-in-Ok-clause-apart
returns-in_ok-parts-in-Ok-clause-apart c =
    IfOk-weaker c.places_in.result _ _
    (places_apart c.args.before c.args.value.now c.items.result.now c.in-Ok.pieces c.items.ensures c.in-Ok.ensures.spans c.in_ok-parts-in-Ok.parts c.items-in-Ok.result.now c.in_ok-parts-in-Ok.ensures c.items-in-Ok.ensures) c.places_in.ensures
