-- What was picked, and what is still to be picked by the counts so far, is all.
use Rattle.std.proofs.Common.{◌≡◌, ◌++◌, [], drop, map}
use Rattle.mail_core.specs.inner.Fixing.{picked}
use Rattle.mail_core.proofs.fixed.picked.Given as goal

abbrev pub invariant-loop-held : goal.invariant-loop-held
invariant-loop-held l =
    l.list ++ picked l.groups l.counts (map (λ h. h.now) (drop l.held-index l.due))
    ≡ picked l.groups [] (map (λ h. h.now) l.due)
