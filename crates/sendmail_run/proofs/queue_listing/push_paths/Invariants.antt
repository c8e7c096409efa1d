-- A line for each path so far.
use Rattle.std.proofs.Common.{◌≡◌, ◌++◌, take}
use Rattle.std.specs.List.{flat_map}
use Rattle.sendmail_run.specs.Listings.{strange_line}
use Rattle.sendmail_run.proofs.queue_listing.push_paths.Given as goal

abbrev pub invariant-loop-path : goal.invariant-loop-path
invariant-loop-path l = l.text ≡ l.fn.text ++ flat_map strange_line (take l.path-index l.paths)
