use Rattle.std.proofs.Common.{◌≡◌, ◌≤◌, drop}
use Rattle.map_tables.specs.Quotes.{is_balanced}
use Rattle.map_tables.specs.inner.Depths.{is_closed_from}
use Rattle.map_tables.proofs.quotes.is_balanced.Given as goal

abbrev pub invariant-loop-byte : goal.invariant-loop-byte
invariant-loop-byte l = record {
  rest : is_closed_from l.opens l.closes l.depth (drop l.byte-index l.plain) ≡ is_balanced l.opens l.closes l.plain;
  few : l.depth ≤ l.byte-index;
}
