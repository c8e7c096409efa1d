-- From each map with which the store agrees.
use Rattle.std.proofs.Common.{◌≡◌, None, inr, subst, sym}
use Rattle.std.specs.Prelude.{IfSome}
use Rattle.spool_disk.specs.Disk.{FileMap}
use Rattle.spool_store.specs.Keepers.{seen}
use Rattle.spool_store.specs.Parcels.{with_commit}
use Rattle.spool_store.specs.Parts.{IsEitherTable}
use Rattle.spool_store.specs.Settled.{IsSettled, StandsFor}
use Rattle.spool_store.specs.Stores.{Agrees, KeepsOthers, StoreSeen}
use Rattle.spool_store.specs.Writes.{after_commit}
use Rattle.spool_store.specs.inner.Commits.{HasNoDraft}
use Rattle.spool_store.proofs.MovesLemmas.{told_now}
use Rattle.spool_store.proofs.Owning.{commit_done, commit_failed, own_parcel}
use Rattle.spool_store.proofs.ParcelLemmas.{agrees_fresh, commit_agrees, commit_keeps, commit_leads, commit_safe, from_told, none_fresh}
use Rattle.spool_store.proofs.queue.Queue.commit.Goals as goal

pub returns-in-Ok-clause-moves : goal.returns-in-Ok-clause-moves
returns-in-Ok-clause-moves g c = λ table children parent body holds is.
    let store = seen c.args.self.now in
    let parcel = c.args.parcel in
    let after = after_commit table children parent parcel.body None in
    let own = own_parcel store children parent body parcel is in
    commit_done _ _ store.dirs table children parent parcel.body body None is.body_is (
    from_told _ _ store (HasNoDraft store.dirs store.next) (StandsFor store.dirs table) (IsSettled store.dirs after) (IsEitherTable store.dirs table after) _ _ (c.requires.agrees c.if-self.false) (none_fresh store.dirs store.next)
    (λ f fresh. c.in-Ok.ensures.moves store children parent f own fresh)
    (λ f a. agrees_fresh store f a)
    (λ f x a stands w. commit_leads store table children parent parcel f x own a holds stands w)
    (λ f x a stands m. commit_safe store table children parent parcel f x own a holds stands m))

pub returns-in-Ok-clause-frame : goal.returns-in-Ok-clause-frame
returns-in-Ok-clause-frame g c = λ base.
    let store = seen c.args.self.now in
    let parcel = c.args.parcel in
    let ready = c.requires.ready in
    let own = own_parcel store ready.children ready.parent ready.body parcel ready.is in
    from_told _ _ store (HasNoDraft store.dirs store.next) (λ (f : FileMap). f ≡ base) (KeepsOthers store.dirs base) (KeepsOthers store.dirs base) _ _ (c.requires.agrees c.if-self.false) (none_fresh store.dirs store.next)
    (λ f fresh. c.in-Ok.ensures.moves store ready.children ready.parent f own fresh)
    (λ f a. agrees_fresh store f a)
    (λ f x a e w. subst (λ (q : FileMap). KeepsOthers store.dirs q x) e (commit_keeps store ready.children ready.parent parcel f x own a (inr w)))
    (λ f x a e m. subst (λ (q : FileMap). KeepsOthers store.dirs q x) e (commit_keeps store ready.children ready.parent parcel f x own a m))

pub returns-in-Ok-clause-agrees : goal.returns-in-Ok-clause-agrees
returns-in-Ok-clause-agrees g c =
    let store = seen c.args.self.now in
    let parcel = c.args.parcel in
    let ready = c.requires.ready in
    let own = own_parcel store ready.children ready.parent ready.body parcel ready.is in
    let after = with_commit store ready.children ready.parent in
    let moves = from_told _ _ store (HasNoDraft store.dirs store.next) (λ (f : FileMap). Unit {0}) (Agrees after) (λ (f : FileMap). Unit {0}) _ _ (c.requires.agrees c.if-self.false) (none_fresh store.dirs store.next)
    (λ f fresh. c.in-Ok.ensures.moves store ready.children ready.parent f own fresh)
    (λ f a. agrees_fresh store f a)
    (λ f x a e w. commit_agrees store ready.children ready.parent parcel f x own a w)
    (λ f x a e m. tt)
    in
    subst (λ (q : StoreSeen). IfSome (g.D.Spool.seen c.put_parcel.new.spool).told (Agrees q)) (sym (c.take_in.ensures.is ready.children ready.parent ready.body ready.is)) (told_now _ _ (Agrees after) moves.now)

pub returns-in-Err-clause-moves : goal.returns-in-Err-clause-moves
returns-in-Err-clause-moves g c = λ table children parent body holds is.
    let store = seen c.args.self.now in
    let parcel = c.args.parcel in
    let after = after_commit table children parent parcel.body None in
    let own = own_parcel store children parent body parcel is in
    commit_failed _ _ store.dirs table children parent parcel.body body None is.body_is (
    from_told _ _ store (HasNoDraft store.dirs store.next) (StandsFor store.dirs table) (IsEitherTable store.dirs table after) (IsEitherTable store.dirs table after) _ _ (c.requires.agrees c.if-self.false) (none_fresh store.dirs store.next)
    (λ f fresh. c.in-Err.ensures.moves store children parent f own fresh)
    (λ f a. agrees_fresh store f a)
    (λ f x a stands m. commit_safe store table children parent parcel f x own a holds stands m)
    (λ f x a stands m. commit_safe store table children parent parcel f x own a holds stands m))

pub returns-in-Err-clause-frame : goal.returns-in-Err-clause-frame
returns-in-Err-clause-frame g c = λ base.
    let store = seen c.args.self.now in
    let parcel = c.args.parcel in
    let ready = c.requires.ready in
    let own = own_parcel store ready.children ready.parent ready.body parcel ready.is in
    from_told _ _ store (HasNoDraft store.dirs store.next) (λ (f : FileMap). f ≡ base) (KeepsOthers store.dirs base) (KeepsOthers store.dirs base) _ _ (c.requires.agrees c.if-self.false) (none_fresh store.dirs store.next)
    (λ f fresh. c.in-Err.ensures.moves store ready.children ready.parent f own fresh)
    (λ f a. agrees_fresh store f a)
    (λ f x a e m. subst (λ (q : FileMap). KeepsOthers store.dirs q x) e (commit_keeps store ready.children ready.parent parcel f x own a m))
    (λ f x a e m. subst (λ (q : FileMap). KeepsOthers store.dirs q x) e (commit_keeps store ready.children ready.parent parcel f x own a m))
