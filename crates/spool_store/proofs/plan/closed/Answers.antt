-- One control file after another.
use Rattle.std.proofs.Common.{◌≡◌, ◌<◌, arith, Contains, get_or, length, refl, sym, subst, ◌∙◌}
use Rattle.std.proofs.lemmas.List.{get_or_default}
use Rattle.std.proofs.lemmas.List.Elements.{Contains-get_or}
use Rattle.mail_base.specs.declared.id.Kind.TheVariants.{Qf}
use Rattle.spool_store.specs.declared.named.Found.{Found}
use Rattle.spool_store.specs.declared.named.Named.{Named}
use Rattle.spool_store.specs.inner.Plans.{Stays, its_name}
use Rattle.spool_store.specs.inner.Sweeps.{IsDone}
use Rattle.spool_store.proofs.PlanLemmas.{picks_next, each_by, verdict_item}
use Rattle.spool_store.proofs.Judgements.{found_in}
use Rattle.spool_store.proofs.plan.closed.Goals as goal

pub loop-place-preserved : goal.loop-place-preserved
loop-place-preserved c =
    let y = get_or c.args.found.now c.loop-place.place c.index-found-place.result in
    let lt : c.loop-place.place < length c.args.found.now = omega arith in
    let is : y ≡ get_or c.args.found.now c.loop-place.place y = get_or_default c.args.found.now c.loop-place.place c.index-found-place.result y lt in
    let among = Contains-get_or c.args.found.now c.loop-place.place c.index-found-place.result lt in
    let x = c.index-found-place-in-loop-place.result in
    let x_is : x ≡ get_or c.args.found.now c.loop-place.place x = c.index-found-place-in-loop-place.is in
    let same : x ≡ y = x_is ∙ get_or_default c.args.found.now c.loop-place.place x c.index-found-place.result lt in
    let in' : Contains c.args.found.now x = found_in c.args.found.now c.loop-place.place x lt x_is in
    record {
      stays = each_by (Stays its_name c.args.found.now) y.named c.is_closed.result c.loop-place.out c.add_if.new.out (λ e. record { source = y; among = among; is = refl }) c.in_ok-add_if.ensures c.loop-place.invariant.stays;
      kinds = each_by (λ (z : Named). z.kind ≡ Qf) y.named c.is_closed.result c.loop-place.out c.add_if.new.out (λ e. subst (λ (z : Found). z.named.kind ≡ Qf) same (c.is_closed.ensures.kind e)) c.in_ok-add_if.ensures c.loop-place.invariant.kinds;
      picks = λ dirs f found judged.
          let verdict = verdict_item dirs f c.args.found.now c.args.verdicts.now c.loop-place.place x _ c.requires.long judged lt x_is in
          picks_next its_name (λ (z : Found). IsDone dirs f z.named) (λ (z : Found). IsDone dirs f z.named → ⊥) c.args.found.now c.loop-place.place y c.is_closed.result c.loop-place.out c.add_if.new.out lt is
          (λ e. subst (λ (z : Found). IsDone dirs f z.named) same (c.is_closed.ensures.yes dirs f (found.each x in') verdict e))
          (λ e done. c.is_closed.ensures.no dirs f (found.each x in') verdict e (subst (λ (z : Found). IsDone dirs f z.named) (sym same) done))
          c.in_ok-add_if.ensures (c.loop-place.invariant.picks dirs f found judged);
    }
