use Rattle.std.proofs.Common.{◌-◌, length, reverse}
use Rattle.addr_tokens.specs.Pieces.{plain}
use Rattle.addr_tokens.specs.inner.Tables.{IsTable}
use Rattle.addr_tokens.specs.inner.Spanning.{SpansAt}
use Rattle.addr_tokens.proofs.piece.pieces.Given as goal

-- the pieces so far, and what is left, give what the whole text gives
abbrev pub invariant-pieces : goal.invariant-pieces
invariant-pieces l = record {
  table : IsTable (plain l.operators) l.table.listed l.table.dollars;
  so : SpansAt (plain l.operators) l.angles l.text l.open.checked l.place (reverse l.open.places.items) l.spans;
}

abbrev pub decreases-pieces : goal.decreases-pieces
decreases-pieces l = length l.text - l.place
