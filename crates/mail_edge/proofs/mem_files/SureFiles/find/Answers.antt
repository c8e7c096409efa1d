-- The test of a file's name decides whether it is found or passed by.
use Rattle.std.proofs.Common.{◌≡◌, ◌∙◌, true, false, arith}
use Rattle.std.specs.Prelude.{bytes_eq}
use Rattle.mail_edge.proofs.Finding.{found_here, passed_by}
use Rattle.mail_edge.proofs.mem_files.SureFiles.find.Goals as goal

pub returns-then-eq-clause-text : goal.returns-then-eq-clause-text
returns-then-eq-clause-text c =
    let same : bytes_eq c.args.name.now c.file-item.result.0 ≡ true = cc in
    let here = found_here c.items-file-items.result.now c.args.name.now c.loop-file.file-index c.file-item.result (omega arith) c.file-item.is same in
    cc

pub loop-file-preserved : goal.loop-file-preserved
loop-file-preserved c =
    let other : bytes_eq c.args.name.now c.file-item.result.0 ≡ false = cc in
    passed_by c.items-file-items.result.now c.args.name.now c.loop-file.file-index c.file-item.result (omega arith) c.file-item.is other ∙ c.loop-file.invariant
