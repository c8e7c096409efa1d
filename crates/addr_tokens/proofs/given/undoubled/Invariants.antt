use Rattle.std.proofs.Common.{◌≡◌, ◌-◌, ◌≤◌, ◌++◌, length, drop}
use Rattle.addr_tokens.specs.Pieces.{undoubled}
use Rattle.addr_tokens.proofs.given.undoubled.Given as goal

abbrev pub invariant-bytes : goal.invariant-bytes
invariant-bytes l = record {
  so : l.text ++ undoubled (drop l.place l.bytes) ≡ undoubled l.bytes;
  within : l.place ≤ length l.bytes;
}

abbrev pub decreases-bytes : goal.decreases-bytes
decreases-bytes l = length l.bytes - l.place
