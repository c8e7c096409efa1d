-- The children, and then the control of their parent.
use Rattle.std.proofs.Common.{◌≡◌, ◌∙◌, inl, ◌∷◌, map, refl, subst}
use Rattle.std.specs.Prelude.{OnOk}
use Rattle.std.proofs.lemmas.Result.{err_from_is_err_and}
use Rattle.spool_store.specs.Parts.{entry_of}
use Rattle.spool_store.proofs.Standing.{contains_tail}
use Rattle.spool_store.proofs.MovesLemmas.{moves_join, moves_weaker}
use Rattle.spool_store.proofs.raises.put_under.Goals as goal

pub returns-in_err-put_parts-clause-moves : goal.returns-in_err-put_parts-clause-moves
returns-in_err-put_parts-clause-moves g c = λ f next new can.
    let these = map (entry_of c.args.body.now) c.args.children.now in
    let s = entry_of c.args.body.now c.args.parent.now in
    rw (err_from_is_err_and c.from_residual.result c.from_residual.ensures.1).1 (moves_weaker _ _ _ _ _ _ _ (λ x m. inl m) (λ x m. inl m) (c.in_err-put_parts.ensures.moves f next (s ∷ these) new (λ t k. contains_tail s t these k)))

pub returns-in_err-put_control-clause-moves : goal.returns-in_err-put_control-clause-moves
returns-in_err-put_control-clause-moves g c = λ f next new can.
    let part = c.args.parent.now in
    let these = map (entry_of c.args.body.now) c.args.children.now in
    let s = entry_of c.args.body.now part in
    let p = err_from_is_err_and c.from_residual-in_err-put_control.result c.from_residual-in_err-put_control.ensures.1 in
    rw p.1 (moves_weaker _ _ _ _ _ _ _ (λ x m. inl m) (λ x m. inl m) (moves_join _ _ _ _ _ _ _ (c.in_ok-put_parts.ensures.moves f next (s ∷ these) new (λ t k. contains_tail s t these k)) (c.in_err-put_control.ensures.moves f next these s refl part.tf_is part.printed can)))

pub returns-clause-moves : goal.returns-clause-moves
returns-clause-moves g c = λ f next new can.
    let part = c.args.parent.now in
    let these = map (entry_of c.args.body.now) c.args.children.now in
    let s = entry_of c.args.body.now part in
    moves_join _ _ _ _ _ _ _
    (moves_weaker _ _ _ _ _ _ _ (λ x m. m) (λ x m. inl m) (moves_join _ _ _ _ _ _ _ (c.in_ok-put_parts.ensures.moves f next (s ∷ these) new (λ t k. contains_tail s t these k)) (c.in_ok-put_control.ensures.moves f next these s refl part.tf_is part.printed can)))
    (c.raise.ensures.moves f next these s refl part.tf_is part.qf_is can)

pub returns-clause-calm : goal.returns-clause-calm
returns-clause-calm g c = subst (λ n. OnOk c.raise.result ((g.D.Spool.seen c.raise.new.spool).faults ≡ n)) (c.in_ok-put_control.ensures.calm ∙ c.in_ok-put_parts.ensures.calm) c.raise.ensures.calm
