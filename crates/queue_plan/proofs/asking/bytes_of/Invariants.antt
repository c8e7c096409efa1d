-- The bytes of the tokens so far.
use Rattle.std.proofs.Common.{◌≡◌, flat_map, take}
use Rattle.addr_tokens.specs.Joins.{token_bytes}
use Rattle.queue_plan.proofs.asking.bytes_of.Given as goal

abbrev pub invariant-loop-token : goal.invariant-loop-token
invariant-loop-token l = l.text ≡ flat_map token_bytes (take l.token-index l.tokens)
