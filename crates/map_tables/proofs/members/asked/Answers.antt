use Rattle.std.proofs.Common.{ap, arith, get_or, length, refl, false}
use Rattle.std.proofs.lemmas.List.{length_push}
use Rattle.map_tables.proofs.MemberLemmas.{agree_more}
use Rattle.map_tables.proofs.members.asked.Goals as goal

pub loop-place-preserved : goal.loop-place-preserved
loop-place-preserved c = record {
  agrees = agree_more c.args.hosts.now c.args.key.now c.args.args.now c.args.maps.now c.args.marked.now c.loop-place.place c.index-maps-place.result c.loop-place.answers c.push.new.self c.items.result.now c.in_ok-one.one
      (get_or c.args.marked.now c.loop-place.place false) c.loop-place-test.true c.index-maps-place.is refl c.requires.closed c.loop-place.invariant.length c.items.ensures c.in_ok-one.ensures c.in_ok-push.ensures.ok c.loop-place.invariant.agrees;
  length = omega (arith, ap length c.in_ok-push.ensures.ok, length_push c.loop-place.answers c.in_ok-one.one, c.loop-place.invariant.length);
}
