-- Those that were found, and those that are still to be found, are all.
use Rattle.std.proofs.Common.{◌≡◌, ◌++◌, drop, filter, map}
use Rattle.std.specs.Option.{option_copied}
use Rattle.mail_core.specs.inner.Fixing.{is_wanted}
use Rattle.mail_core.proofs.fixed.wanted.Given as goal

abbrev pub invariant-loop-held : goal.invariant-loop-held
invariant-loop-held l =
    map (λ h. h.now) l.shown.items ++ filter (is_wanted l.config (option_copied l.group) l.moment) (drop l.held-index l.entries)
    ≡ filter (is_wanted l.config (option_copied l.group) l.moment) l.entries
