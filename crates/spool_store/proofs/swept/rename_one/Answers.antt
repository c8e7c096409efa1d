-- The call leaves a tidied map, done or not.
use Rattle.std.proofs.Common.{◌≡◌, ◌∙◌, sym, List, ℕ, Err, Ok, subst, IsSome}
use Rattle.std.specs.Prelude.{IfSome}
use Rattle.mail_base.specs.declared.fault.Failed.{Failed}
use Rattle.std.proofs.lemmas.Result.{err_from_is_err_and}
use Rattle.mail_base.specs.Names.{name_of}
use Rattle.mail_base.specs.declared.id.Kind.TheVariants.{Qf, Sf}
use Rattle.spool_disk.specs.Disk.{bytes_at}
use Rattle.spool_store.proofs.SweepLemmas.{rename_moves, rename_place, swept_none}
use Rattle.spool_store.proofs.swept.rename_one.Goals as goal

pub returns-in_err-from-clause-moves : goal.returns-in_err-from-clause-moves
returns-in_err-from-clause-moves g c = λ dirs f done x may dir id.
    let p = err_from_is_err_and c.from_residual.result c.from_residual.ensures.1 in
    rw p.1 (swept_none (g.D.Spool.seen c.args.spool.now) dirs f done)

pub returns-in_err-to-clause-moves : goal.returns-in_err-to-clause-moves
returns-in_err-to-clause-moves g c = λ dirs f done x may dir id.
    let p = err_from_is_err_and c.from_residual-in_err-to.result c.from_residual-in_err-to.ensures.1 in
    rw p.1 (swept_none (g.D.Spool.seen c.args.spool.now) dirs f done)

pub returns-in-Ok-clause-moves : goal.returns-in-Ok-clause-moves
returns-in-Ok-clause-moves g c = λ dirs f done x may dir id.
    let from : c.in_ok-from.from ≡ name_of Qf c.args.id = c.in_ok-from.ensures ∙ c.bytes.ensures ∙ c.name.ensures in
    let to : c.in_ok-to.to ≡ name_of Sf c.args.id = c.in_ok-to.ensures ∙ c.bytes-2.ensures ∙ c.name-2.ensures in
    rename_moves {T = Unit {0}} {E = Failed} (g.D.Spool.seen c.args.spool.now) (g.D.Spool.seen c.rename.new.self) dirs f done x c.args.dir.now c.in_ok-from.from c.in_ok-to.to (Ok c.in-Ok.field-0) may
    (rename_place dirs x Qf c.args.dir.now c.in_ok-from.from c.args.id may.entry.kind dir id from) (rename_place dirs (record { dir = x.dir; kind = Sf; id = x.id }) Sf c.args.dir.now c.in_ok-to.to c.args.id (λ i. Sf) dir id to)
    (subst (λ (n : List ℕ). IfSome (g.D.Spool.seen c.args.spool.now).told (λ files. IsSome (bytes_at files (c.args.dir.now, n)))) (sym from) c.requires.there) c.in-Ok.ensures.call

pub returns-clause-moves : goal.returns-clause-moves
returns-clause-moves g c = λ dirs f done x may dir id.
    let from : c.in_ok-from.from ≡ name_of Qf c.args.id = c.in_ok-from.ensures ∙ c.bytes.ensures ∙ c.name.ensures in
    let to : c.in_ok-to.to ≡ name_of Sf c.args.id = c.in_ok-to.ensures ∙ c.bytes-2.ensures ∙ c.name-2.ensures in
    rename_moves {T = Unit {0}} {E = Failed} (g.D.Spool.seen c.args.spool.now) (g.D.Spool.seen c.rename.new.self) dirs f done x c.args.dir.now c.in_ok-from.from c.in_ok-to.to (Err c.in-Err.field-0) may
    (rename_place dirs x Qf c.args.dir.now c.in_ok-from.from c.args.id may.entry.kind dir id from) (rename_place dirs (record { dir = x.dir; kind = Sf; id = x.id }) Sf c.args.dir.now c.in_ok-to.to c.args.id (λ i. Sf) dir id to)
    (subst (λ (n : List ℕ). IfSome (g.D.Spool.seen c.args.spool.now).told (λ files. IsSome (bytes_at files (c.args.dir.now, n)))) (sym from) c.requires.there) c.in-Err.ensures.call
