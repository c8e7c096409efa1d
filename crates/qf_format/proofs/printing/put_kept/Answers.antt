use Rattle.std.proofs.Common.{◌++◌}
use Rattle.std.specs.Prelude.{codes}
use Rattle.qf_format.specs.Spelling.{kept_lines, line}
use Rattle.qf_format.proofs.SheetLemmas.{more_more}
use Rattle.qf_format.proofs.printing.put_kept.Goals as goal

pub returns : goal.returns
unfolding kept_lines
returns c =
    let kept = c.args.kept.now in
    let first = line (codes "$r" ++ kept.protocol) in
    let second = line (codes "$s" ++ kept.helo) in
    let third = line (codes "${client_addr}" ++ kept.client) in
    let two = more_more c.args.paper.now c.put_text_line.new.paper c.put_text_line-2.new.paper first second c.put_text_line.ensures c.put_text_line-2.ensures in
    more_more c.args.paper.now c.put_text_line-2.new.paper c.put_text_line-3.new.paper (first ++ second) third two c.put_text_line-3.ensures
