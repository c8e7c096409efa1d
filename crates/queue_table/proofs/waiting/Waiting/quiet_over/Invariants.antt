-- None of those so far.
use Rattle.std.proofs.Common.{◌≡◌, ◌<◌, ℕ, false, get_or}
use Rattle.spool_store.specs.declared.held.Held.{Held}
use Rattle.queue_table.specs.Claims.{may_claim}
use Rattle.queue_table.proofs.waiting.Waiting.quiet_over.Given as goal

abbrev pub invariant-loop-held : goal.invariant-loop-held
invariant-loop-held l = (m k : ℕ) (d : Held) → m < l.quiet → k < l.held-index → may_claim l.self m (get_or l.entries k d) ≡ false
