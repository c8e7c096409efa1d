use Rattle.std.proofs.Common.{◌≡◌, drop}
use Rattle.std.specs.List.{list_all}
use Rattle.alias_expand.specs.Owners.{is_bare_byte}
use Rattle.alias_expand.proofs.owner.are_bare.Given as goal

-- what is left is as the whole
abbrev pub invariant-loop-byte : goal.invariant-loop-byte
invariant-loop-byte l = list_all is_bare_byte (drop l.byte-index l.text) ≡ list_all is_bare_byte l.text
