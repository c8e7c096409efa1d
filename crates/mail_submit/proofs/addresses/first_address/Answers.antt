use Rattle.mail_submit.proofs.SubmitLemmas.{first_fits, first_is, none_is}
use Rattle.mail_submit.proofs.addresses.first_address.Goals as goal

pub address_at-requires : goal.address_at-requires
address_at-requires c =
    first_fits c.args.header.now c.bytes.result.now c.in_ok-places.places c.items.result.now c.in-Some.place.now c.bytes.ensures c.items.ensures c.in_ok-places.ensures.apart c.in-Some.ensures.value

pub returns-in-Some : goal.returns-in-Some
returns-in-Some c =
    first_is c.args.header.now c.bytes.result.now c.in_ok-places.places c.items.result.now c.in-Some.place.now c.in_ok-address-in-Some.address c.bytes.ensures c.items.ensures c.in_ok-places.ensures.places c.in-Some.ensures.value
    c.in_ok-address-in-Some.ensures

pub returns : goal.returns
returns c = none_is c.args.header.now c.in_ok-places.places c.items.result.now c.items.ensures c.in_ok-places.ensures.places c.in-None.ensures.value
