-- What a cutting into pieces has done so far (our own).
use Rattle.std.specs.Prelude.{ℕ, List, ◌++◌}
use Rattle.cf_reader.specs.Fields.{cut_from, kept}
use Rattle.cf_reader.specs.declared.fields.Cutting.{Cutting}

-- the pieces so far with those of what is left
abbrev pub all_pieces : Cutting → List ℕ → List (List ℕ)
all_pieces cutting text = cutting.pieces ++ kept (cut_from cutting.stand cutting.piece text)
