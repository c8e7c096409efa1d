use Rattle.std.proofs.Common.{◌≡◌, ◌-◌, ◌≤◌, false, length, drop}
use Rattle.addr_tokens.specs.Pieces.{Alphabet}
use Rattle.addr_tokens.specs.Reader.{past_word}
use Rattle.addr_tokens.specs.inner.Tables.{IsTable}
use Rattle.addr_tokens.proofs.ending.word_length.Given as goal

abbrev pub invariant-bytes : goal.invariant-bytes
invariant-bytes l = record {
  within : l.size ≤ length l.text;
  rest : (alphabet : Alphabet) → IsTable alphabet l.table.listed l.table.dollars → past_word alphabet false (drop l.size l.text) ≡ past_word alphabet false l.text;
}

abbrev pub decreases-bytes : goal.decreases-bytes
decreases-bytes l = length l.text - l.size
