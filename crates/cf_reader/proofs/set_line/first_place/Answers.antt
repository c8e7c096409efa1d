use Rattle.std.proofs.Common.{◌∙◌, arith}
use Rattle.cf_reader.proofs.SetLemmas.{place_more, place_done}
use Rattle.cf_reader.proofs.set_line.first_place.Goals as goal

pub loop-name-preserved : goal.loop-name-preserved
loop-name-preserved c =
    place_more c.args.names.now c.args.book.now c.loop-name.name-index c.name-item.result c.loop-name.first c.place_of.result c.earlier-first.result c.loop-name-test.true c.name-item.is c.place_of.ensures c.earlier-first.ensures
    ∙ c.loop-name.invariant

pub returns : goal.returns
returns c = place_done c.args.names.now c.args.book.now c.loop-name.name-index c.loop-name.first _ (omega (arith, c.loop-name-test.false)) c.loop-name.invariant
