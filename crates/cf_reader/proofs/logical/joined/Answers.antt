use Rattle.std.proofs.Common.{◌∙◌, sym}
use Rattle.cf_reader.proofs.LineLemmas.{joined_more}
use Rattle.cf_reader.proofs.logical.joined.Goals as goal

pub loop-rest-preserved : goal.loop-rest-preserved
loop-rest-preserved c =
    joined_more c.joint_of-joint.result _ c.loop-rest.text _ _ _ _ _ (sym c.if-not-is_indented.false ∙ c.is_indented.ensures) c.split_line.ensures.lines c.in_ok-push.ensures.ok c.in_ok-extend.ensures.ok c.loop-rest.invariant
