use Rattle.std.proofs.Common.{◌≡◌, take}
use Rattle.std.specs.Prelude.{fold}
use Rattle.ruleset_run.specs.inner.Values.{with_change}
use Rattle.ruleset_run.proofs.values.change_all.Given as goal

-- the changes so far are made
abbrev pub invariant-loop-change : goal.invariant-loop-change
invariant-loop-change l = l.macros ≡ fold with_change l.fn.macros (take l.change-index l.changes)
