use Rattle.std.proofs.Common.{List, subst, take_all}
use Rattle.map_tables.specs.declared.table.Table.{Table}
use Rattle.map_tables.specs.inner.MapPlaces.{IsPlaced}
use Rattle.map_tables.proofs.AnswerLemmas.{placed_next}
use Rattle.map_tables.proofs.maps.places.Goals as goal

pub loop-place-preserved : goal.loop-place-preserved
loop-place-preserved c =
    placed_next c.args.maps.now c.loop-place.place c.index-maps-place.result c.in_ok-copy.field-0 c.loop-place.places c.set.new.self c.loop-place-test.true c.index-maps-place.is c.in_ok-copy.ensures c.loop-place.invariant
    c.in_ok-set.ensures.sets

pub returns : goal.returns
returns c = subst (λ (maps : List Table). IsPlaced maps c.loop-place.places) (take_all c.loop-place.place c.args.maps.now c.loop-place-test.false) c.loop-place.invariant
