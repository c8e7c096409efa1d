use Rattle.std.proofs.Common.{◌≡◌, ◌++◌, drop}
use Rattle.addr_test.specs.Texts.{spaced}
use Rattle.addr_test.proofs.printing.push_spaced.Given as goal

abbrev pub invariant-loop-token : goal.invariant-loop-token
invariant-loop-token l = l.out ++ spaced (drop l.token-index l.tokens) ≡ l.fn.out ++ spaced l.fn.tokens
