use Rattle.std.proofs.Common.{length, ap, arith}
use Rattle.mail_submit.proofs.SubmitLemmas.{length_here}
use Rattle.mail_submit.proofs.submitting.text_length.Goals as goal

pub overflow_add-length : goal.overflow_add-length
overflow_add-length c =
    omega (arith, c.requires, c.loop-header.invariant, c.len.ensures, ap length c.header-item.is, length_here c.args.headers.now c.loop-header.header-index c.header-item.result c.loop-header-test.true)

pub overflow_add-length-in-loop-header : goal.overflow_add-length-in-loop-header
overflow_add-length-in-loop-header c =
    omega (arith, c.requires, c.loop-header.invariant, c.len.ensures, ap length c.header-item.is, length_here c.args.headers.now c.loop-header.header-index c.header-item.result c.loop-header-test.true)

pub loop-header-preserved : goal.loop-header-preserved
loop-header-preserved c =
    omega (arith, c.loop-header.invariant, c.len.ensures, ap length c.header-item.is, length_here c.args.headers.now c.loop-header.header-index c.header-item.result c.loop-header-test.true)
