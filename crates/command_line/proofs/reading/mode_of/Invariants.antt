use Rattle.std.proofs.Common.{◌≡◌, drop}
use Rattle.command_line.specs.inner.Words.{nothing, read_options}
use Rattle.command_line.proofs.reading.mode_of.Given as goal

-- what the rest of the words says is what all say
abbrev pub invariant-loop-word : goal.invariant-loop-word
invariant-loop-word l = record {
  rest : read_options l.said l.place (drop l.word-index l.word-items) ≡ read_options nothing 0 l.fn.words;
  place : l.place ≡ l.word-index;
}
