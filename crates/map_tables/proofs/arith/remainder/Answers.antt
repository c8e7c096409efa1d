use Rattle.std.proofs.Common.{Some}
use Rattle.std.specs.Prelude.{int_rem}
use Rattle.map_tables.proofs.ArithmeticLemmas.{zero_none, remainder_is}
use Rattle.map_tables.proofs.arith.remainder.Goals as goal

pub returns-then-right-eq0 : goal.returns-then-right-eq0
returns-then-right-eq0 c = zero_none c.args.right (Some (int_rem c.args.left c.args.right)) c.ranges.right c.if-right-eq0.true

pub returns : goal.returns
returns c =
    remainder_is c.args.left c.args.right c.ranges.left c.ranges.right c.if-right-eq0.false c.wrapping_rem.result (record { sfits = c.wrapping_rem.type_inv }) c.wrapping_rem.ensures
