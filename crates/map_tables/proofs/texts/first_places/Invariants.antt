use Rattle.std.proofs.Common.{◌≡◌, drop, fold}
use Rattle.map_tables.specs.Tables.{with_first}
use Rattle.map_tables.specs.inner.FilePlaces.{first_places, places_from}
use Rattle.map_tables.proofs.texts.first_places.Given as goal

-- the places so far with those of the rest are all places
abbrev pub invariant-loop-place : goal.invariant-loop-place
invariant-loop-place l = fold with_first l.places (places_from l.place (drop l.place l.texts)) ≡ first_places l.texts
