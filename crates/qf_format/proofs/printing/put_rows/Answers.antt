use Rattle.std.proofs.Common.{arith, length-append, take}
use Rattle.std.specs.List.{flat_map}
use Rattle.std.proofs.lemmas.List.Folds.{length-flat_map-take}
use Rattle.qf_format.specs.Spelling.{row_lines}
use Rattle.qf_format.proofs.printing.put_rows.Goals as goal

pub put_row-requires : goal.put_row-requires
put_row-requires c =
    let l = length-flat_map-take row_lines c.args.rows.now c.loop-row.row-index c.row-item.result c.loop-row-test.true in
    rw (c.loop-row.invariant, c.row-item.is) (omega (arith, l, length-append c.args.paper.now.bytes (flat_map row_lines (take c.loop-row.row-index c.args.rows.now))))
