-- One file after another.
use Rattle.std.proofs.Common.{◌≡◌, arith, Contains}
use Rattle.mail_base.specs.declared.id.Kind.TheVariants.{Df}
use Rattle.spool_store.specs.declared.named.Named.{Named}
use Rattle.spool_store.specs.inner.Plans.{itself}
use Rattle.spool_store.specs.inner.Sweeps.{IsUnwanted, IsWanted}
use Rattle.spool_store.proofs.Readings.{named_in}
use Rattle.spool_store.proofs.PlanLemmas.{picks_next, each_by}
use Rattle.spool_store.proofs.plan.bodies.Goals as goal

pub loop-named-preserved : goal.loop-named-preserved
loop-named-preserved c = record {
  stays = each_by (Contains c.args.names.now) c.named-item.result c.is_stray_body.result c.loop-named.out c.add_if.new.out (λ e. named_in c.args.names.now c.loop-named.named-index c.named-item.result (omega arith) c.named-item.is) c.in_ok-add_if.ensures c.loop-named.invariant.stays;
  picks = λ dirs f found judged. picks_next itself (λ (x : Named). (x.kind ≡ Df) × IsUnwanted dirs f x) (λ (x : Named). x.kind ≡ Df → IsWanted dirs f x) c.args.names.now c.loop-named.named-index c.named-item.result c.is_stray_body.result c.loop-named.out c.add_if.new.out (omega arith) c.named-item.is (c.is_stray_body.ensures.yes dirs f found judged) (c.is_stray_body.ensures.no dirs f found judged) c.in_ok-add_if.ensures (c.loop-named.invariant.picks dirs f found judged);
}
