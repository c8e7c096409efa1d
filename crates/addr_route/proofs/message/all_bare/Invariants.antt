use Rattle.std.proofs.Common.{◌≡◌, map, take}
use Rattle.addr_route.specs.Errors.{bare}
use Rattle.addr_route.proofs.message.all_bare.Given as goal

-- the tokens so far are given
abbrev pub invariant-loop-token : goal.invariant-loop-token
invariant-loop-token l = l.list ≡ map bare (take l.token-index l.tokens)
