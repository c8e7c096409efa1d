use Rattle.std.proofs.Common.{◌≡◌, ◌-◌, length, None, false}
use Rattle.cf_macros.specs.inner.Levels.{Goes}
use Rattle.cf_macros.proofs.level.Level.read.Given as goal

abbrev pub invariant-constructs : goal.invariant-constructs
invariant-constructs l = record {
  goes : Goes l.fn.self l.fn.given l.level l.given None;
  reads : l.level.tests ≡ false;
}

abbrev pub decreases-constructs : goal.decreases-constructs
decreases-constructs l = length l.level.text.now - l.level.place
