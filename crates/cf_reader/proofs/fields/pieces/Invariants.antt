use Rattle.std.proofs.Common.{◌≡◌, drop}
use Rattle.cf_reader.specs.Fields.{pieces_of}
use Rattle.cf_reader.specs.inner.Cuttings.{all_pieces}
use Rattle.cf_reader.proofs.fields.pieces.Given as goal

-- the pieces so far with those of what is left are all pieces
abbrev pub invariant-loop-byte : goal.invariant-loop-byte
invariant-loop-byte l = all_pieces l.cutting (drop l.byte-index l.text) ≡ pieces_of l.text
