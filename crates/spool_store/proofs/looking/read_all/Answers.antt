-- One file after another.
use Rattle.std.proofs.Common.{◌≡◌, ◌∙◌, ◌<◌, ◌++◌, ◌∷◌, [], sym, ap, subst, Err, List, length, take, arith, ◌+◌}
use Rattle.std.proofs.lemmas.List.{take_more, take_all}
use Rattle.std.proofs.lemmas.Result.{err_from_is_err_and}
use Rattle.mail_base.specs.declared.fault.StoreFault.{StoreFault}
use Rattle.spool_store.specs.declared.named.Named.{Named}
use Rattle.spool_store.specs.inner.Finds.{AreAmong, AreRead}
use Rattle.spool_store.proofs.OpenLemmas.{reads_told}
use Rattle.spool_store.proofs.LooksLemmas.{looks_then, looks_err, looks_none}
use Rattle.spool_store.proofs.Readings.{read_nothing, among_nothing, named_in}
use Rattle.spool_store.proofs.looking.read_all.Goals as goal

pub loop-named-init : goal.loop-named-init
loop-named-init g c = record {
  found = λ f e named. rw c.new-found.ensures (read_nothing c.args.dirs.now f);
  among = rw c.new-found.ensures among_nothing;
  looks = looks_none (g.D.Spool.seen c.args.spool.now) tt;
}

pub read_named-requires : goal.read_named-requires
read_named-requires g c = record { within = c.requires.within c.named-item.result (named_in c.args.names.now c.loop-named.named-index c.named-item.result (omega arith) c.named-item.is) }

pub loop-named-preserved : goal.loop-named-preserved
loop-named-preserved g c =
    let old = g.D.Spool.seen c.args.spool.now in
    let mid = g.D.Spool.seen c.loop-named.spool in
    let new = g.D.Spool.seen c.read_named.new.spool in
    let inv = c.loop-named.invariant in
    let call = c.in_ok-read_named.ensures in
    let x = c.named-item.result in
    let lt : c.loop-named.named-index < length c.args.names.now = omega arith in
    let more : take (c.loop-named.named-index + 1) c.args.names.now ≡ take c.loop-named.named-index c.args.names.now ++ x ∷ [] = take_more c.args.names.now c.loop-named.named-index x lt ∙ ap (λ (y : Named). take c.loop-named.named-index c.args.names.now ++ y ∷ []) (sym c.named-item.is) in
    record {
      found = λ f e named. subst (λ (q : List Named). AreRead c.args.dirs.now f q c.read_named.new.found) (sym more) (call.found f (take c.loop-named.named-index c.args.names.now) (reads_told old mid inv.looks.reads ∙ e) (named.each x (named_in c.args.names.now c.loop-named.named-index x lt c.named-item.is)) (inv.found f e named));
      among = subst (λ (q : List Named). AreAmong q c.read_named.new.found) (sym more) (call.among (take c.loop-named.named-index c.args.names.now) inv.among);
      looks = looks_then old mid new tt _ inv.looks call.looks;
    }

pub returns-in_err-read_named-clause-looks : goal.returns-in_err-read_named-clause-looks
returns-in_err-read_named-clause-looks g c =
    let p = err_from_is_err_and c.from_residual.result c.from_residual.ensures.1 in
    looks_then _ _ _ tt _ c.loop-named.invariant.looks (looks_err _ _ c.in_err-read_named.field-0.0 _ (p.1 ∙ ap (λ (e : StoreFault). Err e) p.2) c.in_err-read_named.ensures.looks)

pub returns-clause-among : goal.returns-clause-among
returns-clause-among g c = subst (λ (q : List Named). AreAmong q c.loop-named.found) (take_all c.loop-named.named-index c.args.names.now (omega (arith, c.loop-named-test.false))) c.loop-named.invariant.among
