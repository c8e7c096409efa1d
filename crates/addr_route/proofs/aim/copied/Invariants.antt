use Rattle.std.proofs.Common.{◌≡◌, take}
use Rattle.addr_route.proofs.aim.copied.Given as goal

-- the tokens so far are copied
abbrev pub invariant-loop-token : goal.invariant-loop-token
invariant-loop-token l = l.list ≡ take l.token-index l.tokens
