-- One control file after another.
use Rattle.std.proofs.Common.{◌<◌, arith, length, subst, List, take}
use Rattle.std.proofs.Math.Nat.{le_refl}
use Rattle.std.proofs.lemmas.List.{take_all}
use Rattle.std.proofs.lemmas.List.Elements.{All-nil}
use Rattle.spool_store.specs.Openings.{IsFitting}
use Rattle.spool_store.specs.declared.named.Found.{Found}
use Rattle.spool_store.specs.inner.Telling.{AreTold}
use Rattle.spool_store.proofs.Judgements.{found_in}
use Rattle.spool_store.proofs.OrderLemmas.{listed_none, listed_more, listed_rising}
use Rattle.spool_store.proofs.PlanLemmas.{verdict_item}
use Rattle.spool_store.proofs.TellingLemmas.{told_none, told_next, told_entries}
use Rattle.spool_store.proofs.opened.entries_of.Goals as goal

pub loop-place-init : goal.loop-place-init
loop-place-init c = record { told = λ f found judged. rw c.new-entries.ensures (told_none c.args.dirs.now f); listed = listed_none c.args.found.now c.new-entries.result c.new-entries.ensures; fit = λ text. rw c.new-entries.ensures (All-nil (IsFitting c.args.dirs.now)) }

pub add_entry-requires : goal.add_entry-requires
add_entry-requires c = record { own = c.requires.within c.index-found-place.result (found_in c.args.found.now c.loop-place.place c.index-found-place.result (omega arith) c.index-found-place.is) }

pub loop-place-preserved : goal.loop-place-preserved
loop-place-preserved c =
    let x = c.index-found-place.result in
    let lt : c.loop-place.place < length c.args.found.now = omega arith in
    record {
      told = λ f found judged. told_next c.args.dirs.now f c.args.found.now c.loop-place.place x c.add_entry.new.out lt c.index-found-place.is
          (c.in_ok-add_entry.ensures.told f (take c.loop-place.place c.args.found.now) (found.each x (found_in c.args.found.now c.loop-place.place x lt c.index-found-place.is)) (verdict_item c.args.dirs.now f c.args.found.now c.args.verdicts.now c.loop-place.place x _ c.requires.long judged lt c.index-found-place.is) (c.loop-place.invariant.told f found judged));
      listed = listed_more c.args.found.now c.loop-place.place x c.loop-place.entries c.add_entry.new.out c.requires.order lt c.index-found-place.is c.loop-place.invariant.listed
          (c.in_ok-add_entry.ensures.rises x.named.id (listed_rising c.args.found.now c.loop-place.place x c.loop-place.entries lt c.index-found-place.is c.loop-place.invariant.listed) (le_refl x.named.id)) c.in_ok-add_entry.ensures.adds;
      fit = λ text. c.in_ok-add_entry.ensures.fit (text x (found_in c.args.found.now c.loop-place.place x lt c.index-found-place.is)) (c.loop-place.invariant.fit text);
    }

pub returns-clause-told : goal.returns-clause-told
returns-clause-told c = λ f found judged. told_entries c.args.dirs.now f c.args.found.now c.loop-place.entries found (subst (λ (q : List Found). AreTold c.args.dirs.now f q c.loop-place.entries) (take_all c.loop-place.place c.args.found.now (omega (arith, c.loop-place-test.false))) (c.loop-place.invariant.told f found judged))

pub returns-clause-ascending : goal.returns-clause-ascending
returns-clause-ascending c = c.loop-place.invariant.listed.ascending

pub returns-clause-source : goal.returns-clause-source
returns-clause-source c = c.loop-place.invariant.listed.source

pub returns-clause-fit : goal.returns-clause-fit
returns-clause-fit c = λ text. c.loop-place.invariant.fit text
