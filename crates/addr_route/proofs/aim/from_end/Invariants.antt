use Rattle.std.proofs.Common.{◌≡◌, ◌≤◌, length}
use Rattle.addr_route.specs.Aims.{from_end}
use Rattle.addr_route.proofs.aim.from_end.Given as goal

-- the rest has the same end as the whole
abbrev pub invariant-tokens : goal.invariant-tokens
invariant-tokens l = record {
  same : from_end l.hosts l.rest ≡ from_end l.hosts l.tokens;
  short : length l.rest ≤ length l.tokens;
}

abbrev pub decreases-tokens : goal.decreases-tokens
decreases-tokens l = length l.rest
