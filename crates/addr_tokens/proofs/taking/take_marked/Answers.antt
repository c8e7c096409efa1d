use Rattle.std.proofs.lemmas.Result.{err_from_is_err_and}
use Rattle.addr_tokens.proofs.ScanLemmas.{front_fails}
use Rattle.addr_tokens.proofs.taking.take_marked.Goals as goal

pub returns-in_err-front-clause-goes : goal.returns-in_err-front-clause-goes
returns-in_err-front-clause-goes g c = λ alphabet angles text table serves is more so.
    let p = err_from_is_err_and c.from_residual.result c.from_residual.ensures.1 in
    rw (p.1, p.2) (front_fails alphabet angles text _ c.args.place _ _ _ so c.args.rest.now is more _ (c.in_err-front.ensures.read alphabet table))

pub returns-clause-goes : goal.returns-clause-goes
returns-clause-goes g c = λ alphabet angles text table serves is more so.
    c.take.ensures.goes alphabet angles text serves is more (c.in_ok-front.ensures.read alphabet table) so
