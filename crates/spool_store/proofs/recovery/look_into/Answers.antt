-- The control files in order of id, and their verdicts.
use Rattle.std.proofs.Common.{◌≡◌, sym, subst, List, length}
use Rattle.spool_store.specs.declared.named.Found.{Found}
use Rattle.spool_store.specs.declared.named.Named.{Named}
use Rattle.spool_store.specs.inner.Finds.{AreFound, AreNamed}
use Rattle.spool_store.specs.inner.Judging.{AreJudged, IsIndexed}
use Rattle.spool_store.proofs.RecoveryLemmas.{found_among, found_by, found_within, within_named}
use Rattle.spool_store.proofs.recovery.look_into.Goals as goal

pub read_all-requires : goal.read_all-requires
read_all-requires g c = record { within = within_named (length c.args.dirs.now) c.args.listed.named c.items.result.now c.items.ensures c.requires.within }

pub judge-requires : goal.judge-requires
judge-requires g c =
    let within = found_within (length c.args.dirs.now) c.items.result.now c.in_ok-read_all.field-0 c.sorted-found.result c.sorted-found.ensures.same c.in_ok-read_all.ensures.among (within_named (length c.args.dirs.now) c.args.listed.named c.items.result.now c.items.ensures c.requires.within) in
    record { indexed = subst (λ (q : List Found). IsIndexed c.args.dirs.now c.items-2.result.now q) (sym c.items-3.ensures) (subst (λ (q : List Named). IsIndexed c.args.dirs.now q c.sorted-found.result) (sym c.items-2.ensures) (record { names_order = c.requires.order; found_order = c.sorted-found.ensures.order; within = within })) }

pub returns-clause-look : goal.returns-clause-look
returns-clause-look g c = record {
  indexed = record { names_order = c.requires.order; found_order = c.sorted-found.ensures.order; within = found_within (length c.args.dirs.now) c.items.result.now c.in_ok-read_all.field-0 c.sorted-found.result c.sorted-found.ensures.same c.in_ok-read_all.ensures.among (within_named (length c.args.dirs.now) c.args.listed.named c.items.result.now c.items.ensures c.requires.within) };
  named = c.requires.within;
  long = subst (λ (q : List Found). length c.in_ok-verdicts.verdicts ≡ length q) c.items-3.ensures c.in_ok-verdicts.ensures.long;
  among = found_among c.args.listed.named c.items.result.now c.in_ok-read_all.field-0 c.sorted-found.result c.items.ensures c.sorted-found.ensures.same c.in_ok-read_all.ensures.among;
}

pub returns-clause-looked : goal.returns-clause-looked
returns-clause-looked g c = λ f e named.
    let named' = subst (λ (q : List Named). AreNamed c.args.dirs.now f (length c.args.dirs.now) q) (sym c.items.ensures) named.0 in
    let found = found_by c.args.dirs.now f c.items.result.now c.in_ok-read_all.field-0 c.sorted-found.result c.sorted-found.ensures.same named' (c.in_ok-read_all.ensures.found f e named') in
    record {
      named = named.0;
      foreign = named.1;
      found = found;
      judged = subst (λ (q : List Found). AreJudged c.args.dirs.now f q c.in_ok-verdicts.verdicts) c.items-3.ensures (c.in_ok-verdicts.ensures.judged f (subst (λ (q : List Named). AreNamed c.args.dirs.now f (length c.args.dirs.now) q) (sym c.items-2.ensures) named.0) (subst (λ (q : List Found). AreFound c.args.dirs.now f q) (sym c.items-3.ensures) found));
    }
