use Rattle.std.proofs.Common.{take}
use Rattle.map_tables.specs.inner.MapPlaces.{IsPlaced}
use Rattle.map_tables.proofs.maps.places.Given as goal

abbrev pub invariant-loop-place : goal.invariant-loop-place
invariant-loop-place l = IsPlaced (take l.place l.maps) l.places
