use Rattle.std.proofs.Common.{◌≡◌, ◌++◌, false, drop}
use Rattle.addr_tokens.specs.inner.Joining.{joined_on}
use Rattle.addr_tokens.proofs.joining.join.Given as goal

abbrev pub invariant-tokens : goal.invariant-tokens
invariant-tokens l = l.text ++ joined_on l.after l.blank (drop l.token-index l.tokens) ≡ joined_on false l.blank l.tokens
