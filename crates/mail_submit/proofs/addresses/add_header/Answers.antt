use Rattle.std.proofs.Common.{◌++◌, ap, ◌∙◌}
use Rattle.std.proofs.lemmas.Result.{on_ok_weaker}
use Rattle.mail_submit.proofs.SubmitLemmas.{addresses_are, places_fit}
use Rattle.mail_submit.proofs.addresses.add_header.Goals as goal

pub add_addresses-requires : goal.add_addresses-requires
add_addresses-requires c =
    places_fit c.args.header.now c.bytes.result.now c.in_ok-places.places c.items.result.now c.bytes.ensures c.items.ensures c.in_ok-places.ensures.apart

pub returns : goal.returns
returns c =
    on_ok_weaker c.add_addresses.result
    (λ is. is ∙ ap (λ l. c.args.list.now ++ l) (addresses_are c.args.header.now c.bytes.result.now c.in_ok-places.places c.items.result.now c.bytes.ensures c.items.ensures c.in_ok-places.ensures.places))
    c.add_addresses.ensures
