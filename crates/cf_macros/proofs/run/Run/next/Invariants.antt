use Rattle.std.proofs.Common.{◌≡◌, false, None}
use Rattle.std.specs.Vec.{vec_len}
use Rattle.cf_macros.specs.inner.Runs.{Continues}
use Rattle.cf_macros.proofs.run.Run.next.Given as goal

abbrev pub invariant-levels : goal.invariant-levels
invariant-levels l = record {
  same : Continues l.fn.self None l.self None;
  reads : l.self.level.tests ≡ false;
  followed : l.self.followed ≡ l.fn.self.followed;
}

abbrev pub decreases-levels : goal.decreases-levels
decreases-levels l = vec_len l.self.below
