-- From each map with which the store agrees.
use Rattle.std.proofs.Common.{◌≡◌, Some, inr, subst, sym}
use Rattle.std.specs.Prelude.{IfSome}
use Rattle.spool_disk.specs.Disk.{FileMap}
use Rattle.spool_store.specs.Keepers.{seen}
use Rattle.spool_store.specs.Parcels.{with_children}
use Rattle.spool_store.specs.Parts.{IsEitherTable}
use Rattle.spool_store.specs.Settled.{IsSettled, StandsFor}
use Rattle.spool_store.specs.Stores.{Agrees, KeepsOthers, StoreSeen}
use Rattle.spool_store.specs.Writes.{after_commit}
use Rattle.spool_store.specs.inner.Commits.{HasNoDrafts}
use Rattle.spool_store.proofs.MovesLemmas.{told_now}
use Rattle.spool_store.proofs.Owning.{commit_done, commit_failed, commit_settled, own_under}
use Rattle.spool_store.proofs.ParcelLemmas.{from_told}
use Rattle.spool_store.proofs.UnderLemmas.{agrees_drafted, none_drafted, settled_now, under_agrees, under_keeps, under_leads, under_safe}
use Rattle.spool_store.proofs.queue.Queue.commit_under.Goals as goal

pub returns-in-Ok-clause-moves : goal.returns-in-Ok-clause-moves
returns-in-Ok-clause-moves g c = λ table id children parent body holds is last.
    let store = seen c.args.self.now in
    let parcel = c.args.parcel in
    let after = after_commit table children parent parcel.body (Some id) in
    let own = own_under store id children parent body parcel is in
    commit_done _ _ store.dirs table children parent parcel.body body (Some id) is.body_is (
    from_told _ _ store (HasNoDrafts store.dirs) (StandsFor store.dirs table) (IsSettled store.dirs after) (IsEitherTable store.dirs table after) _ _ (c.requires.agrees c.if-self.false) (none_drafted store.dirs)
    (λ f fresh. c.in-Ok.ensures.moves store id children parent f own fresh)
    (λ f a. agrees_drafted store f a)
    (λ f x a stands w. under_leads store table id children parent parcel f x own a holds stands w)
    (λ f x a stands m. under_safe store table id children parent parcel f x own last a holds stands m))

pub returns-in-Ok-clause-settled : goal.returns-in-Ok-clause-settled
returns-in-Ok-clause-settled g c = λ table id children parent body f holds is told stands.
    let store = seen c.args.self.now in
    let parcel = c.args.parcel in
    let after = after_commit table children parent parcel.body (Some id) in
    let own = own_under store id children parent body parcel is in
    let moves = from_told _ _ store (HasNoDrafts store.dirs) (StandsFor store.dirs table) (IsSettled store.dirs after) (λ (x : FileMap). Unit {0}) _ _ (c.requires.agrees c.if-self.false) (none_drafted store.dirs)
    (λ h fresh. c.in-Ok.ensures.moves store id children parent h own fresh)
    (λ h a. agrees_drafted store h a)
    (λ h x a its w. under_leads store table id children parent parcel h x own a holds its w)
    (λ h x a its m. tt)
    in
    commit_settled _ store.dirs table children parent parcel.body body (Some id) is.body_is (settled_now _ _ f (StandsFor store.dirs table) (IsSettled store.dirs after) told stands moves.now)

pub returns-in-Ok-clause-frame : goal.returns-in-Ok-clause-frame
returns-in-Ok-clause-frame g c = λ base.
    let store = seen c.args.self.now in
    let parcel = c.args.parcel in
    let ready = c.requires.ready in
    let own = own_under store ready.id ready.children ready.parent ready.body parcel ready.is in
    from_told _ _ store (HasNoDrafts store.dirs) (λ (f : FileMap). f ≡ base) (KeepsOthers store.dirs base) (KeepsOthers store.dirs base) _ _ (c.requires.agrees c.if-self.false) (none_drafted store.dirs)
    (λ f fresh. c.in-Ok.ensures.moves store ready.id ready.children ready.parent f own fresh)
    (λ f a. agrees_drafted store f a)
    (λ f x a e w. subst (λ (q : FileMap). KeepsOthers store.dirs q x) e (under_keeps store ready.id ready.children ready.parent parcel f x own a (inr w)))
    (λ f x a e m. subst (λ (q : FileMap). KeepsOthers store.dirs q x) e (under_keeps store ready.id ready.children ready.parent parcel f x own a m))

pub returns-in-Ok-clause-agrees : goal.returns-in-Ok-clause-agrees
returns-in-Ok-clause-agrees g c =
    let store = seen c.args.self.now in
    let parcel = c.args.parcel in
    let ready = c.requires.ready in
    let own = own_under store ready.id ready.children ready.parent ready.body parcel ready.is in
    let after = with_children store ready.id ready.children ready.parent in
    let moves = from_told _ _ store (HasNoDrafts store.dirs) (λ (f : FileMap). Unit {0}) (Agrees after) (λ (f : FileMap). Unit {0}) _ _ (c.requires.agrees c.if-self.false) (none_drafted store.dirs)
    (λ f fresh. c.in-Ok.ensures.moves store ready.id ready.children ready.parent f own fresh)
    (λ f a. agrees_drafted store f a)
    (λ f x a e w. under_agrees store ready.id ready.children ready.parent parcel f x own a w)
    (λ f x a e m. tt)
    in
    subst (λ (q : StoreSeen). IfSome (g.D.Spool.seen c.put_raise.new.spool).told (Agrees q)) (sym (c.take_under.ensures.is ready.id ready.children ready.parent ready.body ready.is)) (told_now _ _ (Agrees after) moves.now)

pub returns-in-Err-clause-moves : goal.returns-in-Err-clause-moves
returns-in-Err-clause-moves g c = λ table id children parent body holds is last.
    let store = seen c.args.self.now in
    let parcel = c.args.parcel in
    let after = after_commit table children parent parcel.body (Some id) in
    let own = own_under store id children parent body parcel is in
    commit_failed _ _ store.dirs table children parent parcel.body body (Some id) is.body_is (
    from_told _ _ store (HasNoDrafts store.dirs) (StandsFor store.dirs table) (IsEitherTable store.dirs table after) (IsEitherTable store.dirs table after) _ _ (c.requires.agrees c.if-self.false) (none_drafted store.dirs)
    (λ f fresh. c.in-Err.ensures.moves store id children parent f own fresh)
    (λ f a. agrees_drafted store f a)
    (λ f x a stands m. under_safe store table id children parent parcel f x own last a holds stands m)
    (λ f x a stands m. under_safe store table id children parent parcel f x own last a holds stands m))

pub returns-in-Err-clause-frame : goal.returns-in-Err-clause-frame
returns-in-Err-clause-frame g c = λ base.
    let store = seen c.args.self.now in
    let parcel = c.args.parcel in
    let ready = c.requires.ready in
    let own = own_under store ready.id ready.children ready.parent ready.body parcel ready.is in
    from_told _ _ store (HasNoDrafts store.dirs) (λ (f : FileMap). f ≡ base) (KeepsOthers store.dirs base) (KeepsOthers store.dirs base) _ _ (c.requires.agrees c.if-self.false) (none_drafted store.dirs)
    (λ f fresh. c.in-Err.ensures.moves store ready.id ready.children ready.parent f own fresh)
    (λ f a. agrees_drafted store f a)
    (λ f x a e m. subst (λ (q : FileMap). KeepsOthers store.dirs q x) e (under_keeps store ready.id ready.children ready.parent parcel f x own a m))
    (λ f x a e m. subst (λ (q : FileMap). KeepsOthers store.dirs q x) e (under_keeps store ready.id ready.children ready.parent parcel f x own a m))
