use Rattle.std.proofs.Common.{◌-◌, length, map, reverse}
use Rattle.addr_tokens.specs.Pieces.{alphabet_of}
use Rattle.addr_tokens.specs.inner.Tables.{IsTable}
use Rattle.addr_tokens.specs.inner.Scanning.{At}
use Rattle.addr_tokens.proofs.scan.scan.Given as goal

-- what was gathered, and what is left, give what the whole text gives
abbrev pub invariant-pieces : goal.invariant-pieces
invariant-pieces g l = record {
  table : IsTable (alphabet_of l.operators l.fn.dollars) l.table.listed l.table.dollars;
  so : At (alphabet_of l.operators l.fn.dollars) l.angles l.text l.open.checked l.place (reverse l.open.places.items) l.gathering.is_long (map g.T.Given.seen l.gathering.given);
}

abbrev pub decreases-pieces : goal.decreases-pieces
decreases-pieces g l = length l.text - l.place
