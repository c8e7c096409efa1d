-- The rest of the calls makes of these files what all make of the first.
use Rattle.std.proofs.Common.{◌≡◌, drop}
use Rattle.spool_disk.specs.Changes.{after_all}
use Rattle.spool_disk.proofs.mem_spool.MemSpool.replayed.Given as goal

abbrev pub invariant-loop-attempt : goal.invariant-loop-attempt
invariant-loop-attempt l = after_all (drop l.attempt-index l.attempt-items) l.files ≡ after_all l.attempt-items l.self.start
