use Rattle.std.proofs.Common.{◌≡◌, ◌++◌, map, take}
use Rattle.told_devices.specs.Lines.{shown}
use Rattle.told_devices.proofs.line.add.Given as goal

abbrev pub invariant-loop-byte : goal.invariant-loop-byte
invariant-loop-byte l = l.line.items ≡ l.fn.line.items ++ map shown (take l.byte-index l.text)
