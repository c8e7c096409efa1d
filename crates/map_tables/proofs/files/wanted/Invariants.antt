use Rattle.std.proofs.Common.{◌≡◌, ◌++◌, drop}
use Rattle.map_tables.specs.Tables.{wanted_files}
use Rattle.map_tables.proofs.files.wanted.Given as goal

abbrev pub invariant-loop-map : goal.invariant-loop-map
invariant-loop-map l = l.files ++ wanted_files (drop l.map-index l.map-items) ≡ wanted_files l.config.maps
