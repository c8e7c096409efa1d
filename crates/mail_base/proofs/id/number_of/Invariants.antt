use Rattle.std.proofs.Common.{◌≡◌, ◌<◌, ◌^◌, take}
use Rattle.mail_base.specs.Names.{digits}
use Rattle.mail_base.proofs.id.number_of.Given as goal

abbrev pub invariant-loop-byte : goal.invariant-loop-byte
invariant-loop-byte l = (l.number < 10 ^ l.byte-index) × (take l.byte-index l.bytes ≡ digits l.byte-index l.number)
