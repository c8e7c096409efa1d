use Rattle.std.proofs.Common.{◌≡◌, ◌+◌, ◌≤◌, drop}
use Rattle.addr_tokens.specs.Separators.{length_to, outside}
use Rattle.addr_tokens.proofs.place.Separator.length_to.Given as goal

-- what stands before the first separator of the rest is what stands before that of all
abbrev pub invariant-loop-index : goal.invariant-loop-index
invariant-loop-index l = record {
  so_far : l.index + length_to l.self l.place (drop l.index l.text) ≡ length_to l.self outside l.text;
  comments : l.place.comments ≤ l.index;
  angles : l.place.angles ≤ l.index;
}
