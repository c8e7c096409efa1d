-- Each directory adds its files.
use Rattle.std.proofs.Common.{◌≡◌, ◌+◌, ◌++◌, ◌≤◌, length, drop, slice_get, Some, ap, subst, ◌∙◌, arith}
use Rattle.std.proofs.lemmas.Grind.{common_steps}
use Rattle.spool_disk.specs.inner.Folders.{AreApart, all_filed}
use Rattle.spool_disk.proofs.Filing.{filed_at_end, one_more_filed}
use Rattle.spool_disk.proofs.folders.Folders.files.Goals as goal

pub loop-index-preserved : goal.loop-index-preserved
loop-index-preserved c =
    let there : slice_get c.args.self.now c.loop-index.index ≡ Some (c.unwrap.result.0.now, c.unwrap.result.1.now) = grind (arith, common_steps, c.at.ensures, c.unwrap.ensures, c.self.view_is) in
    ap (λ files. files ++ all_filed (drop (c.loop-index.index + 1) c.args.self.now)) c.in_ok-leave.ensures ∙ one_more_filed c.args.self.now c.loop-index.index (c.unwrap.result.0.now, c.unwrap.result.1.now) c.loop-index.files there c.loop-index.invariant

pub returns : goal.returns
returns c =
    let end : length c.args.self.now ≤ c.loop-index.index = omega (arith, c.loop-index-test.false, c.len-index-end.ensures, ap length c.self.view_is) in
    filed_at_end c.args.self.now c.loop-index.index c.loop-index.files end (subst AreApart c.self.view_is c.self.invariant) c.loop-index.invariant
