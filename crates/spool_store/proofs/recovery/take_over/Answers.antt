-- A look, and then the sweep.
use Rattle.std.proofs.Common.{◌∙◌, ap, Err}
use Rattle.std.proofs.lemmas.Result.{err_from_is_err_and}
use Rattle.mail_base.specs.declared.fault.StoreFault.{StoreFault}
use Rattle.spool_store.proofs.MovesLemmas.{moves_join}
use Rattle.spool_store.proofs.SweepLemmas.{counts_err, counts_looks, counts_none, counts_starved, counts_then}
use Rattle.spool_store.proofs.RecoveryLemmas.{look_moves, look_fails}
use Rattle.spool_store.proofs.recovery.take_over.Goals as goal

pub returns-in_err-looked-clause-tidied : goal.returns-in_err-looked-clause-tidied
returns-in_err-looked-clause-tidied g c = λ f e.
    let p = err_from_is_err_and c.from_residual.result c.from_residual.ensures.1 in
    rw p.1 (look_fails _ _ c.args.dirs.now f c.in_err-looked.ensures.looks.reads)

pub returns-in_err-looked-clause-counts : goal.returns-in_err-looked-clause-counts
returns-in_err-looked-clause-counts g c =
    let p = err_from_is_err_and c.from_residual.result c.from_residual.ensures.1 in
    counts_err _ _ c.in_err-looked.field-0.0 _ (p.1 ∙ ap (λ (e : StoreFault). Err e) p.2) (counts_looks _ _ _ c.in_err-looked.ensures.looks)

pub returns-in_err-opened-clause-tidied : goal.returns-in_err-opened-clause-tidied
returns-in_err-opened-clause-tidied g c = λ f e.
    let p = err_from_is_err_and c.from_residual-in_err-opened.result c.from_residual-in_err-opened.ensures.1 in
    rw p.1 (look_fails _ _ c.args.dirs.now f c.in_ok-looked.ensures.looks.reads)

pub returns-in_err-opened-clause-counts : goal.returns-in_err-opened-clause-counts
returns-in_err-opened-clause-counts g c =
    let p = err_from_is_err_and c.from_residual-in_err-opened.result c.from_residual-in_err-opened.ensures.1 in
    counts_then _ _ _ _ _ (counts_looks _ _ _ c.in_ok-looked.ensures.looks) (counts_starved _ _ (p.1 ∙ ap (λ (e : StoreFault). Err e) p.2))

pub returns-in_err-sweep-clause-tidied : goal.returns-in_err-sweep-clause-tidied
returns-in_err-sweep-clause-tidied g c = λ f e.
    let p = err_from_is_err_and c.from_residual-in_err-sweep.result c.from_residual-in_err-sweep.ensures.1 in
    rw p.1 (moves_join _ _ _ _ _ _ _ (look_moves _ _ c.args.dirs.now f c.in_ok-looked.ensures.looks.reads) (c.in_err-sweep.ensures.moves f (c.in_ok-looked.ensures.looked f e)))

pub returns-in_err-sweep-clause-counts : goal.returns-in_err-sweep-clause-counts
returns-in_err-sweep-clause-counts g c =
    let p = err_from_is_err_and c.from_residual-in_err-sweep.result c.from_residual-in_err-sweep.ensures.1 in
    counts_then _ _ _ _ _ (counts_looks _ _ _ c.in_ok-looked.ensures.looks) (counts_err _ _ c.in_err-sweep.field-0.0 _ (p.1 ∙ ap (λ (e : StoreFault). Err e) p.2) c.in_err-sweep.ensures.counts)

pub returns-clause-tidied : goal.returns-clause-tidied
returns-clause-tidied g c = λ f e. moves_join _ _ _ _ _ _ _ (look_moves _ _ c.args.dirs.now f c.in_ok-looked.ensures.looks.reads) (c.in_ok-sweep.ensures.moves f (c.in_ok-looked.ensures.looked f e))

pub returns-clause-entries : goal.returns-clause-entries
returns-clause-entries g c = λ f e. c.in_ok-opened.ensures.entries f (c.in_ok-looked.ensures.looked f e)

pub returns-clause-counts : goal.returns-clause-counts
returns-clause-counts g c = counts_then _ _ _ _ _ (counts_then _ _ _ _ _ (counts_looks _ _ _ c.in_ok-looked.ensures.looks) c.in_ok-sweep.ensures.counts) (counts_none _ c.in_ok-opened.opened)

pub returns-clause-next : goal.returns-clause-next
returns-clause-next g c = λ f e. c.in_ok-opened.ensures.next f (c.in_ok-looked.ensures.looked f e)

pub returns-clause-strange : goal.returns-clause-strange
returns-clause-strange g c = λ f e. c.in_ok-opened.ensures.strange f (c.in_ok-looked.ensures.looked f e)
