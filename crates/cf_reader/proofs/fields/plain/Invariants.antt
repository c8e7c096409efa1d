use Rattle.std.proofs.Common.{◌≡◌, ◌++◌, drop}
use Rattle.cf_reader.specs.Fields.{plain_from}
use Rattle.cf_reader.specs.Fields as spec
use Rattle.cf_reader.proofs.fields.plain.Given as goal

-- what was said so far, and what the rest says
abbrev pub invariant-loop-byte : goal.invariant-loop-byte
invariant-loop-byte l = l.plain ++ plain_from l.stand (drop l.byte-index l.text) ≡ spec.plain l.text
