use Rattle.std.proofs.Common.{◌≡◌, drop}
use Rattle.mail_header.specs.Fields.{class_in}
use Rattle.mail_header.proofs.fields.class_in.Given as goal

abbrev pub invariant-loop-header : goal.invariant-loop-header
invariant-loop-header l = class_in l.lines (drop l.header-index l.headers) ≡ class_in l.lines l.headers
