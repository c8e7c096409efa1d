-- One file after another.
use Rattle.std.proofs.Common.{◌≡◌, arith}
use Rattle.mail_base.specs.declared.id.Kind.TheVariants.{Tf}
use Rattle.spool_store.specs.declared.named.Named.{Named}
use Rattle.spool_store.specs.inner.Plans.{itself}
use Rattle.spool_store.proofs.PlanLemmas.{picks_next}
use Rattle.spool_store.proofs.plan.drafts.Goals as goal

pub loop-named-preserved : goal.loop-named-preserved
loop-named-preserved c = record { picks = picks_next itself (λ (x : Named). x.kind ≡ Tf) (λ (x : Named). x.kind ≡ Tf → ⊥) c.args.names.now c.loop-named.named-index c.named-item.result c.is_draft.result c.loop-named.out c.add_if.new.out (omega arith) c.named-item.is c.is_draft.ensures.yes c.is_draft.ensures.no c.in_ok-add_if.ensures c.loop-named.invariant.picks }
