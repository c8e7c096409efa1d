-- One control file after another.
use Rattle.std.proofs.Common.{◌≡◌, ◌<◌, arith, get_or, length, refl, subst}
use Rattle.std.proofs.lemmas.List.{get_or_default}
use Rattle.std.proofs.lemmas.List.Elements.{Contains-get_or}
use Rattle.spool_store.specs.Tidying.{IsDead}
use Rattle.spool_store.specs.inner.Judging.{IsVerdict}
use Rattle.spool_store.specs.declared.named.Found.{Found}
use Rattle.spool_store.specs.inner.Finds.{spot_named}
use Rattle.spool_store.specs.inner.Plans.{Stays, its_name}
use Rattle.spool_store.proofs.PlanLemmas.{picks_next, each_by, verdict_of, not_dead}
use Rattle.spool_store.proofs.plan.dead.Goals as goal

pub loop-place-preserved : goal.loop-place-preserved
loop-place-preserved c =
    let y = get_or c.args.found.now c.loop-place.place c.index-found-place.result in
    let lt : c.loop-place.place < length c.args.found.now = omega arith in
    let is : y ≡ get_or c.args.found.now c.loop-place.place y = get_or_default c.args.found.now c.loop-place.place c.index-found-place.result y lt in
    record {
      stays = each_by (Stays its_name c.args.found.now) y.named c.is_dead.result c.loop-place.out c.add_if.new.out (λ e. record { source = y; among = Contains-get_or c.args.found.now c.loop-place.place c.index-found-place.result lt; is = refl }) c.in_ok-add_if.ensures c.loop-place.invariant.stays;
      picks = λ dirs f judged. picks_next its_name (λ (x : Found). IsDead dirs f (spot_named dirs x.named)) (λ (x : Found). IsDead dirs f (spot_named dirs x.named) → ⊥) c.args.found.now c.loop-place.place y c.is_dead.result c.loop-place.out c.add_if.new.out lt is
          (λ e. subst (IsVerdict dirs f (spot_named dirs y.named)) (c.is_dead.ensures.yes e) (verdict_of dirs f c.args.found.now c.args.verdicts.now c.loop-place.place c.index-found-place.result _ c.requires.long judged lt))
          (λ e. not_dead dirs f (spot_named dirs y.named) _ (verdict_of dirs f c.args.found.now c.args.verdicts.now c.loop-place.place c.index-found-place.result _ c.requires.long judged lt) (c.is_dead.ensures.no e))
          c.in_ok-add_if.ensures (c.loop-place.invariant.picks dirs f judged);
    }
