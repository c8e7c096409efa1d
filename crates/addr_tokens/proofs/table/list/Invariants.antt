use Rattle.std.proofs.Common.{◌≡◌, ℕ, ◌<◌, ◌==◌, ◌||◌, false, drop, get_or}
use Rattle.std.specs.List.{list_any}
use Rattle.addr_tokens.proofs.table.list.Given as goal

abbrev pub invariant-bytes : goal.invariant-bytes
invariant-bytes l = (b : ℕ) → b < 256 → (get_or l.listed b false || list_any (λ o. o == b) (drop l.byte-index l.bytes)) ≡ (get_or l.fn.listed b false || list_any (λ o. o == b) l.bytes)
