use Rattle.std.proofs.Common.{length}
use Rattle.mail_base.specs.Texts.{IsHeader}
use Rattle.qf_format.specs.inner.Parts.{At}
use Rattle.qf_format.specs.Spelling.{header_lines}
use Rattle.qf_format.proofs.ListLemmas.{ReadSoFar}
use Rattle.qf_format.proofs.header.headers_of.Given as goal

abbrev pub invariant-headers : goal.invariant-headers
invariant-headers l = ReadSoFar header_lines IsHeader (At 46) l.fn.bytes l.headers l.rest

abbrev pub decreases-headers : goal.decreases-headers
decreases-headers l = length l.rest
