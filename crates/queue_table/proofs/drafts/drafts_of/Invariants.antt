-- The drafts so far.
use Rattle.std.proofs.Common.{◌≡◌, take}
use Rattle.queue_table.specs.Commands.{drafts_of}
use Rattle.queue_table.proofs.drafts.drafts_of.Given as goal

abbrev pub invariant-loop-cut : goal.invariant-loop-cut
invariant-loop-cut l = l.drafts ≡ drafts_of l.terms l.message l.moment (take l.cut-index l.cuts)
