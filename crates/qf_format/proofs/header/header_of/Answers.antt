use Rattle.qf_format.proofs.HeaderLemmas.{header_read, no_header_end}
use Rattle.qf_format.proofs.header.header_of.Goals as goal

pub returns-in_ok-of-in-Some-header_end : goal.returns-in_ok-of-in-Some-header_end
returns-in_ok-of-in-Some-header_end c =
    rw (c.in_ok-of-in-Some-header_end.ensures, c.split_end.ensures.text, c.split_end.ensures.rest) (header_read c.args.bytes.now c.in-Some.text.now c.in-Some-header_end.at c.in-Some.ensures.some c.in-Some-header_end.ensures)

pub returns-in-None : goal.returns-in-None
returns-in-None c = no_header_end c.args.bytes.now c.in-Some.text.now c.in-Some.ensures.some c.in-None.ensures
