use Rattle.std.proofs.lemmas.Result.{IfOk-weaker}
use Rattle.mail_header.proofs.PlaceLemmas.{header_places, header_apart}
use Rattle.mail_header.proofs.placing.places.Goals as goal

pub returns-clause-places : goal.returns-clause-places
returns-clause-places c =
    IfOk-weaker c.places_behind.result _ _ (header_places c.args.header.now c.bytes.result.now c.value_of-value.result.now c.len.result c.bytes.ensures c.value_of-value.ensures c.len.ensures) c.places_behind.ensures.places

pub returns-clause-apart : goal.returns-clause-apart
returns-clause-apart c =
    IfOk-weaker c.places_behind.result _ _ (header_apart c.args.header.now c.bytes.result.now c.value_of-value.result.now c.len.result c.bytes.ensures c.value_of-value.ensures c.len.ensures) c.places_behind.ensures.apart
