-- What is there is renamed, and what isn't is gone already.
use Rattle.std.proofs.Common.{◌≡◌, ◌∙◌, sym, ap, List, ℕ, [], Err, refl}
use Rattle.std.proofs.lemmas.List.{get_or_read}
use Rattle.std.proofs.lemmas.Result.{err_from_is_err_and}
use Rattle.mail_base.specs.Names.{name_of}
use Rattle.mail_base.specs.declared.id.Kind.{Kind}
use Rattle.mail_base.specs.declared.fault.StoreFault.{StoreFault}
use Rattle.spool_store.specs.inner.Finds.{dir_at}
use Rattle.spool_store.proofs.OpenLemmas.{reads_told}
use Rattle.spool_store.proofs.MovesLemmas.{moves_join}
use Rattle.spool_store.proofs.SweepLemmas.{absent_moves, read_moves, read_fails, none_at, some_at, same_place, counts_looks, counts_then, counts_err}
use Rattle.spool_store.proofs.swept.finish_one.Goals as goal

pub returns-in_err-read_bytes-clause-moves : goal.returns-in_err-read_bytes-clause-moves
returns-in_err-read_bytes-clause-moves g c = λ f done may.
    let p = err_from_is_err_and c.from_residual.result c.from_residual.ensures.1 in
    rw p.1 (read_fails (g.D.Spool.seen c.args.spool.now) (g.D.Spool.seen c.read_bytes.new.spool) c.args.dirs.now f done c.in_err-read_bytes.ensures.looks.reads)

pub returns-in_err-read_bytes-clause-counts : goal.returns-in_err-read_bytes-clause-counts
returns-in_err-read_bytes-clause-counts g c =
    let p = err_from_is_err_and c.from_residual.result c.from_residual.ensures.1 in
    counts_err _ _ c.in_err-read_bytes.field-0.0 _ (p.1 ∙ ap (λ (e : StoreFault). Err e) p.2) (counts_looks _ _ _ c.in_err-read_bytes.ensures.looks)

pub returns-in-None-clause-moves : goal.returns-in-None-clause-moves
returns-in-None-clause-moves g c = λ f done may.
    let dir : c.index-dirs-named.result ≡ dir_at c.args.dirs.now c.args.named.now.dir = get_or_read c.args.dirs.now _ _ c.requires.own c.index-dirs-named.is [] in
    absent_moves (g.D.Spool.seen c.args.spool.now) (g.D.Spool.seen c.read_bytes.new.spool) c.args.dirs.now f done c.args.named.now c.in_ok-read_bytes.ensures.looks.reads
    (none_at (g.D.Spool.seen c.args.spool.now).told _ _ c.in_ok-read_bytes.field-0 (ap (λ (d : List ℕ). (d, name_of c.args.named.now.kind c.args.named.now.id)) (sym dir)) c.in-None.is c.in_ok-read_bytes.ensures.bytes)

pub rename_one-requires : goal.rename_one-requires
rename_one-requires g c =
    let dir : c.index-dirs-named.result ≡ dir_at c.args.dirs.now c.args.named.now.dir = get_or_read c.args.dirs.now _ _ c.requires.own c.index-dirs-named.is [] in
    let again : c.index-dirs-named-in-Some.result ≡ dir_at c.args.dirs.now c.args.named.now.dir = get_or_read c.args.dirs.now _ _ c.requires.own c.index-dirs-named-in-Some.is [] in
    record { there = some_at (g.D.Spool.seen c.args.spool.now).told (g.D.Spool.seen c.read_bytes.new.spool).told _ _ c.in_ok-read_bytes.field-0 _ (same_place _ _ _ _ (again ∙ sym dir) (ap (λ (k : Kind). name_of k c.args.named.now.id) (sym c.requires.kind))) (reads_told _ _ c.in_ok-read_bytes.ensures.looks.reads) c.in-Some.is c.in_ok-read_bytes.ensures.bytes }

pub returns-in-Some-clause-moves : goal.returns-in-Some-clause-moves
returns-in-Some-clause-moves g c = λ f done may.
    let again : c.index-dirs-named-in-Some.result ≡ dir_at c.args.dirs.now c.args.named.now.dir = get_or_read c.args.dirs.now _ _ c.requires.own c.index-dirs-named-in-Some.is [] in
    moves_join _ _ _ _ _ _ _ (read_moves (g.D.Spool.seen c.args.spool.now) (g.D.Spool.seen c.read_bytes.new.spool) c.args.dirs.now f done c.in_ok-read_bytes.ensures.looks.reads) (c.rename_one.ensures.moves c.args.dirs.now f done c.args.named.now may again refl)

pub returns-in-Some-clause-counts : goal.returns-in-Some-clause-counts
returns-in-Some-clause-counts g c = counts_then _ _ _ _ _ (counts_looks _ _ _ c.in_ok-read_bytes.ensures.looks) c.rename_one.ensures.counts
