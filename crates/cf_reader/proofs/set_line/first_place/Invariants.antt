use Rattle.std.proofs.Common.{◌≡◌, drop}
use Rattle.std.specs.Prelude.{position}
use Rattle.cf_reader.specs.SetLines.{has_one}
use Rattle.cf_reader.specs.inner.Places.{earlier}
use Rattle.cf_reader.proofs.set_line.first_place.Given as goal

abbrev pub invariant-loop-name : goal.invariant-loop-name
invariant-loop-name l = earlier l.first (position (has_one (drop l.name-index l.names)) l.book) ≡ position (has_one l.fn.names) l.fn.book
