use Rattle.std.proofs.Common.{take}
use Rattle.std.specs.Prelude.{All}
use Rattle.mail_core.specs.inner.Nexts.{IsBusy}
use Rattle.mail_core.proofs.listing.first_listed.Given as goal

-- none of those so far may be claimed
abbrev pub invariant-loop-place : goal.invariant-loop-place
invariant-loop-place l = All (IsBusy l.waiting l.entries) (take l.place l.ids)
