-- The calls of a child, joined.
use Rattle.std.proofs.Common.{◌≡◌, ◌∙◌, subst}
use Rattle.std.specs.Prelude.{OnOk}
use Rattle.std.proofs.lemmas.Result.{err_from_is_err_and}
use Rattle.spool_store.proofs.MovesLemmas.{moves_join}
use Rattle.spool_store.proofs.parts.put_part.Goals as goal

pub returns-in_err-put_body-clause-moves : goal.returns-in_err-put_body-clause-moves
returns-in_err-put_body-clause-moves g c = λ f next own children done can mine k among.
    let p = err_from_is_err_and c.from_residual.result c.from_residual.ensures.1 in
    rw p.1 (c.in_err-put_body.ensures.moves f next own children done can (mine _ k))

pub returns-in_err-put_draft-clause-moves : goal.returns-in_err-put_draft-clause-moves
returns-in_err-put_draft-clause-moves g c = λ f next own children done can mine k among.
    let p = err_from_is_err_and c.from_residual-in_err-put_draft.result c.from_residual-in_err-put_draft.ensures.1 in
    rw p.1 (moves_join _ _ _ _ _ _ _ (c.in_ok-put_body.ensures.moves f next own children done can (mine _ k)) (c.in_err-put_draft.ensures.moves c.args.body.now f next own children done can (mine _ k)))

pub returns-clause-moves : goal.returns-clause-moves
returns-clause-moves g c = λ f next own children done can mine k among.
    moves_join _ _ _ _ _ _ _
    (moves_join _ _ _ _ _ _ _ (c.in_ok-put_body.ensures.moves f next own children done can (mine _ k)) (c.in_ok-put_draft.ensures.moves c.args.body.now f next own children done can (mine _ k)))
    (c.publish.ensures.moves c.args.body.now f next own children done can mine k among)

pub returns-clause-calm : goal.returns-clause-calm
returns-clause-calm g c = subst (λ n. OnOk c.publish.result ((g.D.Spool.seen c.publish.new.spool).faults ≡ n)) (c.in_ok-put_draft.ensures.calm ∙ c.in_ok-put_body.ensures.calm) c.publish.ensures.calm
