use Rattle.map_tables.specs.Arithmetic.{fitting}
use Rattle.std.specs.Prelude.{int_div}
use Rattle.map_tables.proofs.ArithmeticLemmas.{zero_none, quotient_is}
use Rattle.map_tables.proofs.arith.quotient.Goals as goal

pub returns-then-right-eq0 : goal.returns-then-right-eq0
returns-then-right-eq0 c = zero_none c.args.right (fitting (int_div c.args.left c.args.right)) c.ranges.right c.if-right-eq0.true

pub returns : goal.returns
returns c = quotient_is c.args.left c.args.right c.ranges.left c.ranges.right c.if-right-eq0.false c.checked_div.result c.checked_div.ensures
