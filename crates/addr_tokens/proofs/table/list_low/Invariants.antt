use Rattle.std.proofs.Common.{◌≡◌, ℕ, ◌<◌, true, false, length, get_or}
use Rattle.addr_tokens.proofs.table.list_low.Given as goal

abbrev pub invariant-bytes : goal.invariant-bytes
invariant-bytes l = record {
  size : length l.listed ≡ 256;
  kept : (b : ℕ) → get_or l.fn.listed b false ≡ true → get_or l.listed b false ≡ true;
  low : (b : ℕ) → b < l.byte → get_or l.listed b false ≡ true;
  only : (b : ℕ) → 32 < b → get_or l.listed b false ≡ get_or l.fn.listed b false;
}
