-- Those that were found, and those that are still to be found, are all.
use Rattle.std.proofs.Common.{◌≡◌, ◌++◌, drop, filter, map}
use Rattle.sendmail_run.specs.inner.Listing.{is_open}
use Rattle.sendmail_run.proofs.queue_listing.unfinished.Given as goal

abbrev pub invariant-loop-held : goal.invariant-loop-held
invariant-loop-held l = map (λ h. h.now) l.shown.items ++ filter is_open (drop l.held-index l.entries) ≡ filter is_open l.entries
