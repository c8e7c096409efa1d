use Rattle.std.proofs.Common.{◌≡◌, ◌++◌, take}
use Rattle.ruleset_run.proofs.calls.push_all.Given as goal

-- the list has gained the tokens so far
abbrev pub invariant-loop-token : goal.invariant-loop-token
invariant-loop-token l = l.tokens ≡ l.fn.tokens ++ take l.token-index l.more
