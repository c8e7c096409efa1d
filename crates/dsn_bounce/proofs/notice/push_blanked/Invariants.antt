use Rattle.std.proofs.Common.{◌≡◌, ◌++◌, take, map}
use Rattle.std.specs.List.{flat_map}
use Rattle.mail_base.specs.Notes.{blanked}
use Rattle.dsn_bounce.proofs.notice.push_blanked.Given as goal

abbrev pub invariant-loop-byte : goal.invariant-loop-byte
invariant-loop-byte l = l.text ≡ l.fn.text ++ map blanked (take l.byte-index l.bytes)
