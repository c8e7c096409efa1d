-- The test of a file's place decides whether it is found or passed by.
use Rattle.std.proofs.Common.{◌≡◌, ◌∙◌, true, false, arith}
use Rattle.spool_disk.specs.Disk.{lies_at}
use Rattle.spool_disk.proofs.Finding.{found_here, passed_by}
use Rattle.spool_disk.proofs.listing.find.Goals as goal

pub returns-then-is_at : goal.returns-then-is_at
returns-then-is_at c =
    let same : lies_at (c.args.dir.now, c.args.name.now) c.file-item.result ≡ true = cc in
    let here = found_here c.args.files.now (c.args.dir.now, c.args.name.now) c.loop-file.file-index c.file-item.result (omega arith) c.file-item.is same in
    cc

pub loop-file-preserved : goal.loop-file-preserved
loop-file-preserved c =
    let other : lies_at (c.args.dir.now, c.args.name.now) c.file-item.result ≡ false = cc in
    passed_by c.args.files.now (c.args.dir.now, c.args.name.now) c.loop-file.file-index c.file-item.result (omega arith) c.file-item.is other ∙ c.loop-file.invariant
