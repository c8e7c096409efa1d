-- A path for each file so far.
use Rattle.std.proofs.Common.{◌≡◌, map, take}
use Rattle.sendmail_run.specs.Listings.{path_of}
use Rattle.sendmail_run.proofs.queue_listing.paths_of.Given as goal

abbrev pub invariant-loop-stray : goal.invariant-loop-stray
invariant-loop-stray l = l.paths.items ≡ map path_of (take l.stray-index l.strays)
