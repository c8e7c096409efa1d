use Rattle.std.proofs.Common.{◌≡◌, ◌∷◌, map, take}
use Rattle.mail_base.specs.Notes.{blanked}
use Rattle.alias_expand.proofs.owner.bracketed.Given as goal

-- the angle that opens, and the bytes so far
abbrev pub invariant-loop-byte : goal.invariant-loop-byte
invariant-loop-byte l = l.path ≡ 60 ∷ map blanked (take l.byte-index l.text)
