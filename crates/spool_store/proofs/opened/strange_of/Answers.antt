-- One control file after another.
use Rattle.std.proofs.Common.{◌<◌, arith, length, subst, sym, List, [], take}
use Rattle.std.proofs.lemmas.List.{take_all}
use Rattle.mail_base.specs.declared.control.Stray.{Stray}
use Rattle.spool_store.specs.declared.named.Found.{Found}
use Rattle.spool_store.specs.inner.Telling.{AreShown}
use Rattle.spool_store.proofs.Judgements.{found_in}
use Rattle.spool_store.proofs.PlanLemmas.{verdict_item}
use Rattle.spool_store.proofs.ShowingLemmas.{shown_none, shown_next, shown_strays}
use Rattle.spool_store.proofs.opened.strange_of.Goals as goal

pub loop-place-init : goal.loop-place-init
loop-place-init c = record { shown = λ f judged. subst (λ (q : List Stray). AreShown c.args.dirs.now f c.args.strays.now [] q) (sym c.in_ok-strange.ensures) (shown_none c.args.dirs.now f c.args.strays.now) }

pub add_strange-requires : goal.add_strange-requires
add_strange-requires c = record { own = c.requires.within c.index-found-place.result (found_in c.args.found.now c.loop-place.place c.index-found-place.result (omega arith) c.index-found-place.is) }

pub loop-place-preserved : goal.loop-place-preserved
loop-place-preserved c =
    let x = c.index-found-place.result in
    let lt : c.loop-place.place < length c.args.found.now = omega arith in
    record {
      shown = λ f judged. shown_next c.args.dirs.now f c.args.strays.now c.args.found.now c.loop-place.place x c.add_strange.new.out lt c.index-found-place.is
          (c.in_ok-add_strange.ensures f c.args.strays.now (take c.loop-place.place c.args.found.now) (verdict_item c.args.dirs.now f c.args.found.now c.args.verdicts.now c.loop-place.place x _ c.requires.long judged lt c.index-found-place.is) (c.loop-place.invariant.shown f judged));
    }

pub returns : goal.returns
returns c = λ f foreign found judged. shown_strays c.args.dirs.now f c.args.strays.now c.args.found.now c.loop-place.strange foreign found (subst (λ (q : List Found). AreShown c.args.dirs.now f c.args.strays.now q c.loop-place.strange) (take_all c.loop-place.place c.args.found.now (omega (arith, c.loop-place-test.false))) (c.loop-place.invariant.shown f judged))
