use Rattle.std.proofs.Common.{◌≡◌, ℕ, List, Some, slice_get, arith}
use Rattle.std.proofs.lemmas.Grind.{common_steps}
use Rattle.mail_base.specs.Catalogs.{with_value}
use Rattle.mail_base.specs.declared.mailer.Group.{Group}
use Rattle.mail_core.specs.inner.Lanes as spec
use Rattle.mail_core.proofs.GroupLemmas.{all_set, one_more}
use Rattle.mail_core.proofs.lanes.group_lanes.Goals as goal

pub loop-index-preserved : goal.loop-index-preserved
loop-index-preserved c =
    let groups = c.args.config.now.groups in
    let age = c.args.config.now.options.min_queue_age in
    let pair : List ℕ × Group = (c.unwrap.result.0.now, c.unwrap.result.1.now) in
    let at : slice_get groups c.loop-index.index ≡ Some pair = grind (arith, common_steps, c.at.ensures, c.unwrap.ensures) in
    let set : c.set.new.self ≡ with_value pair.0 (spec.lane c.args.usual age pair.0 pair.1) c.loop-index.lanes = cc (c.in_ok-set.ensures.ok, c.in_ok-copy.ensures, c.in_ok-lane.ensures) in
    one_more (spec.named_lane c.args.usual age) groups c.loop-index.lanes c.set.new.self c.loop-index.index pair (omega (arith, c.loop-index-test.true, c.len-index-end.ensures)) at set c.loop-index.invariant

pub returns : goal.returns
returns c =
    all_set (spec.named_lane c.args.usual c.args.config.now.options.min_queue_age) c.args.config.now.groups c.loop-index.lanes c.loop-index.index
    (omega (arith, c.loop-index-test.false, c.len-index-end.ensures))
    (omega (arith, c.loop-index.auto.index-end, c.len-index-end.ensures))
    (omega (arith, c.if-len.false, c.len.ensures, c.len-2.ensures))
    c.loop-index.invariant
