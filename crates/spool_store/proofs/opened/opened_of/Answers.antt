-- What was looked at.
use Rattle.std.proofs.Common.{sym, subst, List, length, Contains}
use Rattle.std.specs.List.Sorted.{IsNonDecreasingBy}
use Rattle.spool_store.specs.declared.named.Found.{Found}
use Rattle.spool_store.specs.declared.verdict.Verdict.{Verdict}
use Rattle.spool_store.specs.inner.Finds.{AreAmong, AreFound, AreNamed}
use Rattle.spool_store.specs.declared.named.Named.{Named}
use Rattle.spool_store.proofs.OrderLemmas.{ordered_by}
use Rattle.spool_store.proofs.TellingLemmas.{next_by}
use Rattle.spool_store.specs.inner.Judging.{AreJudged}
use Rattle.spool_store.proofs.RecoveryLemmas.{within_items, long_items}
use Rattle.spool_store.proofs.opened.opened_of.Goals as goal

pub entries_of-requires : goal.entries_of-requires
entries_of-requires c = record { order = subst (λ (q : List Found). IsNonDecreasingBy (λ (x : Found). x.named.id) q) (sym c.items-found.ensures) c.requires.look.indexed.found_order; within = within_items (length c.args.dirs.now) c.args.looked.now.found c.items-found.result.now c.items-found.ensures c.requires.look.indexed.within; long = long_items c.args.looked.now.verdicts c.items-verdicts.result.now c.args.looked.now.found c.items-found.result.now c.items-verdicts.ensures c.items-found.ensures c.requires.look.long }

pub strange_of-requires : goal.strange_of-requires
strange_of-requires c = record { within = within_items (length c.args.dirs.now) c.args.looked.now.found c.items-found.result.now c.items-found.ensures c.requires.look.indexed.within; long = long_items c.args.looked.now.verdicts c.items-verdicts.result.now c.args.looked.now.found c.items-found.result.now c.items-verdicts.ensures c.items-found.ensures c.requires.look.long }

pub returns-clause-entries : goal.returns-clause-entries
returns-clause-entries c = λ f looked. c.in_ok-entries.ensures.told f (subst (λ (q : List Found). AreFound c.args.dirs.now f q) (sym c.items-found.ensures) looked.found) (subst (λ (q : List Verdict). AreJudged c.args.dirs.now f c.items-found.result.now q) (sym c.items-verdicts.ensures) (subst (λ (q : List Found). AreJudged c.args.dirs.now f q c.args.looked.now.verdicts) (sym c.items-found.ensures) looked.judged))

pub returns-clause-next : goal.returns-clause-next
returns-clause-next c = λ f looked. next_by c.args.dirs.now f c.items.result.now c.items-found.result.now c.next_named.result c.past_parents.result (subst (λ (q : List Named). AreNamed c.args.dirs.now f (length c.args.dirs.now) q) (sym c.items.ensures) looked.named) (subst (λ (q : List Found). AreFound c.args.dirs.now f q) (sym c.items-found.ensures) looked.found) c.next_named.ensures.above c.next_named.ensures.least c.past_parents.ensures

pub returns-clause-strange : goal.returns-clause-strange
returns-clause-strange c = λ f looked. c.in_ok-strange.ensures f looked.foreign (subst (λ (q : List Found). AreFound c.args.dirs.now f q) (sym c.items-found.ensures) looked.found) (subst (λ (q : List Verdict). AreJudged c.args.dirs.now f c.items-found.result.now q) (sym c.items-verdicts.ensures) (subst (λ (q : List Found). AreJudged c.args.dirs.now f q c.args.looked.now.verdicts) (sym c.items-found.ensures) looked.judged))

pub returns-clause-order : goal.returns-clause-order
returns-clause-order c = ordered_by c.items.result.now c.items-found.result.now c.in_ok-entries.entries c.next_named.result c.past_parents.result c.in_ok-entries.ensures.ascending c.in_ok-entries.ensures.source
    (subst (λ (q : List Named). AreAmong q c.items-found.result.now) (sym c.items.ensures) (subst (λ (q : List Found). AreAmong c.args.looked.now.named q) (sym c.items-found.ensures) c.requires.look.among)) c.next_named.ensures.above c.past_parents.ensures

pub returns-clause-fit : goal.returns-clause-fit
returns-clause-fit c = c.in_ok-entries.ensures.fit (λ x k. (c.requires.look.among x (subst (λ (q : List Found). Contains q x) c.items-found.ensures k)).1)
