-- One file after another.
use Rattle.std.proofs.Common.{◌∙◌, ◌++◌, ◌<◌, sym, ap, subst, List, Err, arith, length, take, Contains}
use Rattle.std.proofs.lemmas.List.{take_all}
use Rattle.std.proofs.lemmas.Result.{err_from_is_err_and}
use Rattle.mail_base.specs.declared.fault.StoreFault.{StoreFault}
use Rattle.spool_disk.specs.Disk.{Place}
use Rattle.spool_store.specs.Moves.{Moves}
use Rattle.spool_store.specs.Tidying.{IsTidied}
use Rattle.spool_store.specs.declared.named.Named.{Named}
use Rattle.spool_store.specs.inner.Sweeps.{IsSweptOf, places}
use Rattle.spool_store.proofs.MovesLemmas.{moves_join, moves_none}
use Rattle.spool_store.proofs.Readings.{named_in}
use Rattle.spool_store.proofs.SweepLemmas.{counts_none, counts_then, counts_err, finish_more, kinds_take, places_more, places_none}
use Rattle.spool_store.proofs.swept.finish_all.Goals as goal

pub loop-named-init : goal.loop-named-init
loop-named-init g c = record {
  moves = λ f done may. moves_none _ _ _ _ (λ h s. subst (λ (q : List Place). IsSweptOf c.args.dirs.now f q h) (places_none c.args.dirs.now done) s);
  counts = counts_none (g.D.Spool.seen c.args.spool.now) tt;
}

pub finish_one-requires : goal.finish_one-requires
finish_one-requires g c = let among = named_in c.args.closed.now c.loop-named.named-index c.named-item.result (omega arith) c.named-item.is in record { own = c.requires.within c.named-item.result among; kind = c.requires.kinds c.named-item.result among }

pub loop-named-preserved : goal.loop-named-preserved
loop-named-preserved g c =
    let x = c.named-item.result in
    let i = c.loop-named.named-index in
    let lt : i < length c.args.closed.now = omega arith in
    let among : Contains c.args.closed.now x = named_in c.args.closed.now i x lt c.named-item.is in
    record {
      moves = λ f done may. subst (λ (q : List Place). Moves (g.D.Spool.seen c.args.spool.now) (g.D.Spool.seen c.finish_one.new.spool) (IsSweptOf c.args.dirs.now f done) (IsSweptOf c.args.dirs.now f q) (IsTidied c.args.dirs.now f)) (sym (places_more c.args.dirs.now done c.args.closed.now i x lt c.named-item.is))
          (moves_join _ _ _ _ _ _ _ (c.loop-named.invariant.moves f done may) (c.in_ok-finish_one.ensures.moves f (done ++ places c.args.dirs.now (take i c.args.closed.now)) (finish_more c.args.dirs.now f done (take i c.args.closed.now) x (kinds_take c.args.closed.now i c.requires.kinds) (may x among))));
      counts = counts_then _ _ _ tt _ c.loop-named.invariant.counts c.in_ok-finish_one.ensures.counts;
    }

pub returns-in_err-finish_one-clause-moves : goal.returns-in_err-finish_one-clause-moves
returns-in_err-finish_one-clause-moves g c = λ f done may.
    let x = c.named-item.result in
    let i = c.loop-named.named-index in
    let lt : i < length c.args.closed.now = omega arith in
    let among : Contains c.args.closed.now x = named_in c.args.closed.now i x lt c.named-item.is in
    let p = err_from_is_err_and c.from_residual.result c.from_residual.ensures.1 in
    rw p.1 (moves_join _ _ _ _ _ _ _ (c.loop-named.invariant.moves f done may) (c.in_err-finish_one.ensures.moves f (done ++ places c.args.dirs.now (take i c.args.closed.now)) (finish_more c.args.dirs.now f done (take i c.args.closed.now) x (kinds_take c.args.closed.now i c.requires.kinds) (may x among))))

pub returns-in_err-finish_one-clause-counts : goal.returns-in_err-finish_one-clause-counts
returns-in_err-finish_one-clause-counts g c =
    let p = err_from_is_err_and c.from_residual.result c.from_residual.ensures.1 in
    counts_then _ _ _ tt _ c.loop-named.invariant.counts (counts_err _ _ c.in_err-finish_one.field-0.0 _ (p.1 ∙ ap (λ (e : StoreFault). Err e) p.2) c.in_err-finish_one.ensures.counts)

pub returns-clause-moves : goal.returns-clause-moves
returns-clause-moves g c = λ f done may. subst (λ (q : List Named). Moves (g.D.Spool.seen c.args.spool.now) (g.D.Spool.seen c.loop-named.spool) (IsSweptOf c.args.dirs.now f done) (IsSweptOf c.args.dirs.now f (done ++ places c.args.dirs.now q)) (IsTidied c.args.dirs.now f)) (take_all c.loop-named.named-index c.args.closed.now (omega (arith, c.loop-named-test.false))) (c.loop-named.invariant.moves f done may)

pub returns-clause-counts : goal.returns-clause-counts
returns-clause-counts g c = c.loop-named.invariant.counts
