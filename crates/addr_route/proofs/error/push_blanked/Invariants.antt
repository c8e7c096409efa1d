use Rattle.std.proofs.Common.{◌≡◌, ◌++◌, map, take}
use Rattle.mail_base.specs.Notes.{blanked}
use Rattle.addr_route.proofs.error.push_blanked.Given as goal

-- the bytes so far are added
abbrev pub invariant-loop-byte : goal.invariant-loop-byte
invariant-loop-byte l = l.text ≡ l.fn.text ++ map blanked (take l.byte-index l.bytes)
