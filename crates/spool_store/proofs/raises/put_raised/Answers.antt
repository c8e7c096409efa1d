-- Both calls, joined.
use Rattle.std.proofs.Common.{◌≡◌, [], ◌∷◌, inl, subst}
use Rattle.std.specs.Prelude.{OnOk}
use Rattle.std.proofs.lemmas.Result.{err_from_is_err_and}
use Rattle.spool_store.proofs.MovesLemmas.{moves_at, moves_join, moves_weaker}
use Rattle.spool_store.proofs.Stages.{written_none}
use Rattle.spool_store.proofs.Writing.{none_under}
use Rattle.spool_store.proofs.raises.put_raised.Goals as goal

pub returns-in_err-put_control-clause-moves : goal.returns-in_err-put_control-clause-moves
returns-in_err-put_control-clause-moves g c = λ f next s in_dir from to said can.
    let p = err_from_is_err_and c.from_residual.result c.from_residual.ensures.1 in
    rw p.1 (moves_at _ _ f _ _ _ (written_none f, none_under f next (s ∷ []) [] f (written_none f)) (moves_weaker _ _ _ _ _ _ _ (λ x m. inl m) (λ x m. inl m) (c.in_err-put_control.ensures.moves f next [] s in_dir from said can)))

pub returns-clause-moves : goal.returns-clause-moves
returns-clause-moves g c = λ f next s in_dir from to said can.
    moves_at _ _ f _ _ _ (written_none f, none_under f next (s ∷ []) [] f (written_none f))
    (moves_join _ _ _ _ _ _ _
    (moves_weaker _ _ _ _ _ _ _ (λ x m. m) (λ x m. inl m) (c.in_ok-put_control.ensures.moves f next [] s in_dir from said can))
    (c.raise.ensures.moves f next [] s in_dir from to can))

pub returns-clause-calm : goal.returns-clause-calm
returns-clause-calm g c = subst (λ n. OnOk c.raise.result ((g.D.Spool.seen c.raise.new.spool).faults ≡ n)) c.in_ok-put_control.ensures.calm c.raise.ensures.calm
