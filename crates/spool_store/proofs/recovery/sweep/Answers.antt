-- Nothing was called where there was no memory for the plan.
use Rattle.std.proofs.lemmas.Result.{err_from_is_err_and}
use Rattle.std.proofs.Common.{[]}
use Rattle.spool_store.proofs.SweepLemmas.{swept_none}
use Rattle.spool_store.proofs.recovery.sweep.Goals as goal

pub returns-in_err-plan-clause-moves : goal.returns-in_err-plan-clause-moves
returns-in_err-plan-clause-moves g c = λ f looked.
    let p = err_from_is_err_and c.from_residual.result c.from_residual.ensures.1 in
    rw p.1 (swept_none (g.D.Spool.seen c.args.spool.now) c.args.dirs.now f [])
