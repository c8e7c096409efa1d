use Rattle.mail_base.proofs.PlaceLemmas.{indexed_all, indexed_more}
use Rattle.map_tables.specs.Hosts.{has_name}
use Rattle.map_tables.proofs.host_table.hold_lines.Goals as goal

pub loop-place-preserved : goal.loop-place-preserved
loop-place-preserved c =
    indexed_more has_name c.args.lines.now c.loop-place.place c.index-lines-place.result c.loop-place.places c.hold_line.new.places c.loop-place-test.true c.index-lines-place.is
    c.hold_line.ensures.keeps c.in_ok-hold_line.ensures.held c.loop-place.invariant

pub returns : goal.returns
returns c = indexed_all has_name c.args.lines.now c.loop-place.place c.loop-place.places c.loop-place-test.false c.loop-place.invariant
