use Rattle.std.proofs.Common.{◌∙◌, sym, ap, arith}
use Rattle.mailer_smtp.specs.Plans.{settled, is_sent, result_of}
use Rattle.mailer_smtp.proofs.ConverseLemmas.{settling_set, settled_all, when, unless}
use Rattle.mailer_smtp.proofs.rows.settle.Goals as goal
use Rattle.mailer_smtp.proofs.rows.settle.Goals.{then-is_sent, else-is_sent}

pub loop-row-preserved : goal.loop-row-preserved
loop-row-preserved c = elim c.if-is_sent.branch [
  | then-is_sent w ↦ settling_set (settled c.args.last.now) _ _ _ _ c.row-item.result _ c.loop-row.invariant (omega arith) c.row-item.is w.rows-is (w.result_of.ensures ∙ sym (when (is_sent c.row-item.result) (result_of c.args.last.now) c.row-item.result (ap is_sent c.row-item.is ∙ sym c.is_sent.ensures ∙ w.if-is_sent.true)))
  | else-is_sent w ↦ settling_set (settled c.args.last.now) _ _ _ _ c.row-item.result _ c.loop-row.invariant (omega arith) c.row-item.is w.rows-is (sym c.row-item.is ∙ sym (unless (is_sent c.row-item.result) (result_of c.args.last.now) c.row-item.result (ap is_sent c.row-item.is ∙ sym c.is_sent.ensures ∙ w.if-is_sent.false)))
]

pub returns : goal.returns
returns c = settled_all (settled c.args.last.now) _ _ _ c.loop-row.invariant (omega arith)
