use Rattle.std.proofs.Common.{◌≡◌, ◌≤◌, ◌-◌, false, None}
use Rattle.cf_macros.specs.Expansion.{value_in}
use Rattle.cf_macros.specs.inner.Runs.{comes_to}
use Rattle.cf_macros.proofs.expansion.expand_in.Given as goal

abbrev pub invariant-references : goal.invariant-references
invariant-references l = record {
  same : comes_to l.macros l.run None ≡ value_in l.fn.scope l.text l.macros;
  reads : l.run.level.tests ≡ false;
  few : l.run.followed ≤ 10000;
}

abbrev pub decreases-references : goal.decreases-references
decreases-references l = 10000 - l.run.followed
