use Rattle.map_tables.proofs.HostLemmas.{held_alias, held_name}
use Rattle.map_tables.proofs.host_table.hold_line.Goals as goal

pub loop-alias-init : goal.loop-alias-init
loop-alias-init c = record {
  keeps = c.hold_first.ensures.keeps;
  held = held_name c.args.lines.now c.args.place c.args.line.now.name c.items-alias-items.result.now c.hold_first.new.self c.in_ok-hold_first.ensures.held;
}

pub loop-alias-preserved : goal.loop-alias-preserved
loop-alias-preserved c = record {
  keeps = λ name place held. c.hold_first-in-loop-alias.ensures.keeps name place (c.loop-alias.invariant.keeps name place held);
  held = held_alias c.args.lines.now c.args.place c.args.line.now.name c.items-alias-items.result.now c.loop-alias.alias-index c.alias-item.result c.loop-alias.places c.hold_first-in-loop-alias.new.self
      c.loop-alias-test.true c.alias-item.is c.hold_first-in-loop-alias.ensures.keeps c.in_ok-hold_first-2.ensures.held c.loop-alias.invariant.held;
}
