use Rattle.std.proofs.Common.{◌≡◌, map, take}
use Rattle.cf_reader.specs.Fields.{field_of}
use Rattle.cf_reader.proofs.fields.fields.Given as goal

abbrev pub invariant-loop-piece : goal.invariant-loop-piece
invariant-loop-piece l = l.fields ≡ map field_of (take l.piece-index l.piece-items)
