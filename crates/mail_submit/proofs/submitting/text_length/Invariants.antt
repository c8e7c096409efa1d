use Rattle.std.proofs.Common.{◌≡◌, ◌+◌, drop, length}
use Rattle.mail_header.specs.Headers.{text_of}
use Rattle.mail_submit.proofs.submitting.text_length.Given as goal

abbrev pub invariant-loop-header : goal.invariant-loop-header
invariant-loop-header l = l.length + length (text_of (drop l.header-index l.headers)) ≡ length (text_of l.headers)
