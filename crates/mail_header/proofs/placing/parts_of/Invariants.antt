use Rattle.std.proofs.Common.{◌≡◌, ◌≤◌, ◌++◌, drop}
use Rattle.mail_header.specs.Places.{parts_of}
use Rattle.mail_header.proofs.placing.parts_of.Given as goal

-- the parts so far, and those of the rest, are those of all
abbrev pub invariant-loop-index : goal.invariant-loop-index
invariant-loop-index l = record {
  so_far : l.parts ++ parts_of l.before l.depth (drop l.index l.pieces) ≡ parts_of l.before 0 l.pieces;
  depth : l.depth ≤ l.index;
}
