use Rattle.std.proofs.Common.{◌≡◌, ◌++◌, drop}
use Rattle.addr_test.specs.Texts.{mailers_text}
use Rattle.addr_test.proofs.books.mailers.Given as goal

abbrev pub invariant-loop-index : goal.invariant-loop-index
invariant-loop-index l = l.text ++ mailers_text (drop l.index l.mailers) ≡ mailers_text l.fn.mailers
