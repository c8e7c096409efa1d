-- The call leaves a tidied map, done or not.
use Rattle.std.proofs.Common.{◌≡◌, ◌∙◌, sym, [], Err, Ok}
use Rattle.std.proofs.lemmas.List.{get_or_read}
use Rattle.mail_base.specs.declared.fault.Failed.{Failed}
use Rattle.std.proofs.lemmas.Result.{err_from_is_err_and}
use Rattle.spool_store.specs.inner.Sweeps.{place_named}
use Rattle.spool_store.proofs.SweepLemmas.{remove_at, same_place, swept_none}
use Rattle.spool_store.proofs.swept.remove_one.Goals as goal

pub returns-in_err-name-clause-moves : goal.returns-in_err-name-clause-moves
returns-in_err-name-clause-moves g c = λ f done may.
    let p = err_from_is_err_and c.from_residual.result c.from_residual.ensures.1 in
    rw p.1 (swept_none (g.D.Spool.seen c.args.spool.now) c.args.dirs.now f done)

pub returns-in-Ok-clause-moves : goal.returns-in-Ok-clause-moves
returns-in-Ok-clause-moves g c = λ f done may.
    let at : place_named c.args.dirs.now c.args.named.now ≡ (c.index-dirs-named.result, c.in_ok-name.name) = same_place _ _ _ _ (sym (get_or_read c.args.dirs.now _ _ c.requires.own c.index-dirs-named.is [])) (sym (c.in_ok-name.ensures ∙ c.bytes.ensures ∙ c.name.ensures)) in
    remove_at {T = Unit {0}} {E = Failed} (g.D.Spool.seen c.args.spool.now) (g.D.Spool.seen c.remove.new.self) c.args.dirs.now f done c.args.named.now (c.index-dirs-named.result, c.in_ok-name.name) (Ok c.in-Ok.field-0) at may c.in-Ok.ensures.call

pub returns-clause-moves : goal.returns-clause-moves
returns-clause-moves g c = λ f done may.
    let at : place_named c.args.dirs.now c.args.named.now ≡ (c.index-dirs-named.result, c.in_ok-name.name) = same_place _ _ _ _ (sym (get_or_read c.args.dirs.now _ _ c.requires.own c.index-dirs-named.is [])) (sym (c.in_ok-name.ensures ∙ c.bytes.ensures ∙ c.name.ensures)) in
    remove_at {T = Unit {0}} {E = Failed} (g.D.Spool.seen c.args.spool.now) (g.D.Spool.seen c.remove.new.self) c.args.dirs.now f done c.args.named.now (c.index-dirs-named.result, c.in_ok-name.name) (Err c.in-Err.field-0) at may c.in-Err.ensures.call
