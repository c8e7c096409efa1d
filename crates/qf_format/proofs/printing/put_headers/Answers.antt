use Rattle.std.proofs.Common.{arith, length-append, take}
use Rattle.std.specs.List.{flat_map}
use Rattle.std.proofs.lemmas.List.Folds.{length-flat_map-take}
use Rattle.qf_format.specs.Spelling.{header_lines}
use Rattle.qf_format.proofs.printing.put_headers.Goals as goal

pub put_text_line-requires : goal.put_text_line-requires
put_text_line-requires c =
    let l = length-flat_map-take header_lines c.args.headers.now c.loop-header.header-index c.header-item.result c.loop-header-test.true in
    rw (c.loop-header.invariant, c.header-item.is) (omega (arith, l, length-append c.args.paper.now.bytes (flat_map header_lines (take c.loop-header.header-index c.args.headers.now))))
