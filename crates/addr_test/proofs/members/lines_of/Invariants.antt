use Rattle.std.proofs.Common.{◌≡◌, take}
use Rattle.addr_test.specs.Texts.{lines_text}
use Rattle.addr_test.proofs.members.lines_of.Given as goal

abbrev pub invariant-loop-text : goal.invariant-loop-text
invariant-loop-text l = l.lines ≡ lines_text (take l.text-index l.texts)
