use Rattle.std.proofs.Common.{◌≡◌, ◌++◌, map, take}
use Rattle.cf_reader.specs.OptionLines.{path_of}
use Rattle.cf_reader.proofs.alias_paths.push_paths.Given as goal

abbrev pub invariant-loop-piece : goal.invariant-loop-piece
invariant-loop-piece l = l.files ≡ l.fn.files ++ map path_of (take l.piece-index l.pieces)
