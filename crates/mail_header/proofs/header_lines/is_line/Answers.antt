use Rattle.mail_header.specs.Headers.{is_plain}
use Rattle.mail_base.proofs.SearchLemmas.{all_stay}
use Rattle.mail_header.proofs.SearchLemmas.{ends_are}
use Rattle.mail_header.proofs.header_lines.is_line.Goals as goal

pub returns : goal.returns
returns c = all_stay _ is_plain ends_are c.args.line.now c.find_byteset.result c.is_none.result c.find_byteset.ensures c.is_none.ensures
