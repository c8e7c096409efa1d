-- One file after another.
use Rattle.std.proofs.Common.{◌∙◌, ◌++◌, ◌<◌, sym, ap, subst, List, Err, arith, length, take, Contains}
use Rattle.std.proofs.lemmas.List.{take_all}
use Rattle.std.proofs.lemmas.Result.{err_from_is_err_and}
use Rattle.mail_base.specs.declared.fault.StoreFault.{StoreFault}
use Rattle.spool_disk.specs.Disk.{Place}
use Rattle.spool_store.specs.Moves.{Moves}
use Rattle.spool_store.specs.Tidying.{IsTidied}
use Rattle.spool_store.specs.declared.named.Named.{Named}
use Rattle.spool_store.specs.inner.Sweeps.{IsSweptOf, places}
use Rattle.spool_store.proofs.MovesLemmas.{moves_join, moves_none}
use Rattle.spool_store.proofs.Readings.{named_in}
use Rattle.spool_store.proofs.SweepLemmas.{counts_none, counts_then, counts_err, may_more, places_more, places_none}
use Rattle.spool_store.proofs.swept.remove_all.Goals as goal

pub loop-named-init : goal.loop-named-init
loop-named-init g c = record {
  moves = λ f done may. moves_none _ _ _ _ (λ h s. subst (λ (q : List Place). IsSweptOf c.args.dirs.now f q h) (places_none c.args.dirs.now done) s);
  counts = counts_none (g.D.Spool.seen c.args.spool.now) tt;
}

pub remove_one-requires : goal.remove_one-requires
remove_one-requires g c = record { own = c.requires.within c.named-item.result (named_in c.args.doomed.now c.loop-named.named-index c.named-item.result (omega arith) c.named-item.is) }

pub loop-named-preserved : goal.loop-named-preserved
loop-named-preserved g c =
    let x = c.named-item.result in
    let i = c.loop-named.named-index in
    let lt : i < length c.args.doomed.now = omega arith in
    let among : Contains c.args.doomed.now x = named_in c.args.doomed.now i x lt c.named-item.is in
    record {
      moves = λ f done may. subst (λ (q : List Place). Moves (g.D.Spool.seen c.args.spool.now) (g.D.Spool.seen c.remove_one.new.spool) (IsSweptOf c.args.dirs.now f done) (IsSweptOf c.args.dirs.now f q) (IsTidied c.args.dirs.now f)) (sym (places_more c.args.dirs.now done c.args.doomed.now i x lt c.named-item.is))
          (moves_join _ _ _ _ _ _ _ (c.loop-named.invariant.moves f done may) (c.in_ok-remove_one.ensures.moves f (done ++ places c.args.dirs.now (take i c.args.doomed.now)) (may_more c.args.dirs.now f done (places c.args.dirs.now (take i c.args.doomed.now)) x (may x among))));
      counts = counts_then _ _ _ tt _ c.loop-named.invariant.counts c.in_ok-remove_one.ensures.counts;
    }

pub returns-in_err-remove_one-clause-moves : goal.returns-in_err-remove_one-clause-moves
returns-in_err-remove_one-clause-moves g c = λ f done may.
    let x = c.named-item.result in
    let i = c.loop-named.named-index in
    let lt : i < length c.args.doomed.now = omega arith in
    let among : Contains c.args.doomed.now x = named_in c.args.doomed.now i x lt c.named-item.is in
    let p = err_from_is_err_and c.from_residual.result c.from_residual.ensures.1 in
    rw p.1 (moves_join _ _ _ _ _ _ _ (c.loop-named.invariant.moves f done may) (c.in_err-remove_one.ensures.moves f (done ++ places c.args.dirs.now (take i c.args.doomed.now)) (may_more c.args.dirs.now f done (places c.args.dirs.now (take i c.args.doomed.now)) x (may x among))))

pub returns-in_err-remove_one-clause-counts : goal.returns-in_err-remove_one-clause-counts
returns-in_err-remove_one-clause-counts g c =
    let p = err_from_is_err_and c.from_residual.result c.from_residual.ensures.1 in
    counts_then _ _ _ tt _ c.loop-named.invariant.counts (counts_err _ _ c.in_err-remove_one.field-0.0 _ (p.1 ∙ ap (λ (e : StoreFault). Err e) p.2) c.in_err-remove_one.ensures.counts)

pub returns-clause-moves : goal.returns-clause-moves
returns-clause-moves g c = λ f done may. subst (λ (q : List Named). Moves (g.D.Spool.seen c.args.spool.now) (g.D.Spool.seen c.loop-named.spool) (IsSweptOf c.args.dirs.now f done) (IsSweptOf c.args.dirs.now f (done ++ places c.args.dirs.now q)) (IsTidied c.args.dirs.now f)) (take_all c.loop-named.named-index c.args.doomed.now (omega (arith, c.loop-named-test.false))) (c.loop-named.invariant.moves f done may)

pub returns-clause-counts : goal.returns-clause-counts
returns-clause-counts g c = c.loop-named.invariant.counts
