use Rattle.std.proofs.Common.{◌/◌, arith, length-append}
use Rattle.std.specs.Fmt.{decimal}
use Rattle.qf_format.proofs.Numbers.{length-decimal_more}
use Rattle.qf_format.proofs.SheetLemmas.{digits_more}
use Rattle.qf_format.proofs.printing.+put_decimal.Goals as goal

pub put_decimal-requires : goal.put_decimal-requires
put_decimal-requires t c = let l = length-decimal_more c.args.number c.if-number-lt10.false c.ranges.number.fits in (omega arith, omega arith)

pub put-requires-2 : goal.put-requires-2
put-requires-2 t c =
    let l = length-decimal_more c.args.number c.if-number-lt10.false c.ranges.number.fits in
    rw c.put_decimal.ensures (omega (arith, length-append c.args.paper.now.bytes (decimal (c.args.number / 10))))

pub returns : goal.returns
returns t c = digits_more c.args.paper.now c.put_decimal.new.paper c.put-2.new.self c.args.number c.if-number-lt10.false c.ranges.number.fits c.put_decimal.ensures c.put-2.ensures
