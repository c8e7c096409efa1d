-- Each draft is one heir more.
use Rattle.std.proofs.Common.{◌∙◌, arith, Some}
use Rattle.spool_store.proofs.Drafting.{one_heir}
use Rattle.spool_store.proofs.making.heirs.Goals as goal

pub loop-draft-preserved : goal.loop-draft-preserved
loop-draft-preserved c = record {
  parts = λ b. one_heir c.args.first c.loop-draft.next b c.args.parent.now c.args.drafts.now c.loop-draft.draft-index c.draft-item.result c.loop-draft.parts c.push.new.self c.in_ok-part.part (omega arith) c.loop-draft.invariant.next c.in_ok-push.ensures.ok (c.loop-draft.invariant.parts b)
      (c.in_ok-part.ensures ∙ (λ i. record { id = c.new.ensures i; dir = (c.draft-item.is i).dir; control = record (c.draft-item.is i).control { parent = Some c.args.parent.now } }));
  next = omega (arith, c.loop-draft.invariant.next);
}
