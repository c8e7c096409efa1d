-- The children, and then their parent.
use Rattle.std.proofs.Common.{◌≡◌, ◌∙◌, inl, ◌∷◌, map, subst}
use Rattle.std.specs.Prelude.{OnOk}
use Rattle.std.proofs.lemmas.Result.{err_from_is_err_and}
use Rattle.spool_store.specs.Parts.{entry_of}
use Rattle.spool_store.proofs.Standing.{contains_head, contains_tail}
use Rattle.spool_store.proofs.MovesLemmas.{moves_join, moves_weaker}
use Rattle.spool_store.proofs.parts.put_all.Goals as goal

pub returns-in_err-put_parts-clause-moves : goal.returns-in_err-put_parts-clause-moves
returns-in_err-put_parts-clause-moves g c = λ f next new can.
    let these = map (entry_of c.args.body.now) c.args.children.now in
    let s = entry_of c.args.body.now c.args.parent.now in
    rw (err_from_is_err_and c.from_residual.result c.from_residual.ensures.1).1 (moves_weaker _ _ _ _ _ _ _ (λ x m. inl m) (λ x m. inl m) (c.in_err-put_parts.ensures.moves f next (s ∷ these) new (λ t k. contains_tail s t these k)))

pub returns-in_err-put_body-clause-moves : goal.returns-in_err-put_body-clause-moves
returns-in_err-put_body-clause-moves g c = λ f next new can.
    let these = map (entry_of c.args.body.now) c.args.children.now in
    let s = entry_of c.args.body.now c.args.parent.now in
    let p = err_from_is_err_and c.from_residual-in_err-put_body.result c.from_residual-in_err-put_body.ensures.1 in
    rw p.1 (moves_weaker _ _ _ _ _ _ _ (λ x m. inl m) (λ x m. inl m) (moves_join _ _ _ _ _ _ _ (c.in_ok-put_parts.ensures.moves f next (s ∷ these) new (λ t k. contains_tail s t these k)) (c.in_err-put_body.ensures.moves f next (s ∷ these) these these can (contains_head s these))))

pub returns-in_err-put_draft-clause-moves : goal.returns-in_err-put_draft-clause-moves
returns-in_err-put_draft-clause-moves g c = λ f next new can.
    let body = c.args.body.now in
    let these = map (entry_of body) c.args.children.now in
    let s = entry_of body c.args.parent.now in
    let p = err_from_is_err_and c.from_residual-in_err-put_draft.result c.from_residual-in_err-put_draft.ensures.1 in
    rw p.1 (moves_weaker _ _ _ _ _ _ _ (λ x m. inl m) (λ x m. inl m) (moves_join _ _ _ _ _ _ _ (moves_join _ _ _ _ _ _ _ (c.in_ok-put_parts.ensures.moves f next (s ∷ these) new (λ t k. contains_tail s t these k)) (c.in_ok-put_body.ensures.moves f next (s ∷ these) these these can (contains_head s these))) (c.in_err-put_draft.ensures.moves body f next (s ∷ these) these these can (contains_head s these))))

pub returns-clause-moves : goal.returns-clause-moves
returns-clause-moves g c = λ f next new can.
    let body = c.args.body.now in
    let these = map (entry_of body) c.args.children.now in
    let s = entry_of body c.args.parent.now in
    moves_join _ _ _ _ _ _ _
    (moves_weaker _ _ _ _ _ _ _ (λ x m. m) (λ x m. inl m) (moves_join _ _ _ _ _ _ _ (moves_join _ _ _ _ _ _ _ (c.in_ok-put_parts.ensures.moves f next (s ∷ these) new (λ t k. contains_tail s t these k)) (c.in_ok-put_body.ensures.moves f next (s ∷ these) these these can (contains_head s these))) (c.in_ok-put_draft.ensures.moves body f next (s ∷ these) these these can (contains_head s these))))
    (c.decide.ensures.moves body f next (s ∷ these) these can)

pub returns-clause-calm : goal.returns-clause-calm
returns-clause-calm g c = subst (λ n. OnOk c.decide.result ((g.D.Spool.seen c.decide.new.spool).faults ≡ n)) (c.in_ok-put_draft.ensures.calm ∙ c.in_ok-put_body.ensures.calm ∙ c.in_ok-put_parts.ensures.calm) c.decide.ensures.calm
