-- The entry has its new control, and its children the first free ids.
use Rattle.std.proofs.Common.{◌≡◌, ◌∙◌, ◌+◌, ◌++◌, List, ap, length, map, subst, sym}
use Rattle.spool_store.specs.Keepers.{seen}
use Rattle.spool_store.specs.Stores.{HasId}
use Rattle.spool_store.specs.declared.part.Part.{Part}
use Rattle.spool_store.specs.inner.Commits.{queued}
use Rattle.spool_store.proofs.ParcelLemmas.{row_at}
use Rattle.qf_format.specs.Valid.{IsValid}
use Rattle.spool_store.proofs.Fitting.{same_fit}
use Rattle.spool_store.proofs.UnderLemmas.{parcel_has, taken_under, under_fits, under_id, under_row, under_valid}
use Rattle.spool_store.proofs.queue.Queue.take_under.Goals as goal

pub set_control-requires-clause-entry : goal.set_control-requires-clause-entry
set_control-requires-clause-entry c =
    let ready = c.requires.ready in
    subst (λ n. HasId (seen c.args.self.now).entries n) (sym c.id-id.ensures) (parcel_has (seen c.args.self.now) ready.id ready.children ready.parent ready.body c.args.parcel ready.is)

pub set_control-requires-clause-valid : goal.set_control-requires-clause-valid
set_control-requires-clause-valid c =
    let ready = c.requires.ready in
    subst IsValid (sym (c.into_control.ensures ∙ ap (λ q. q.1.entry.control) c.into_parts-children.ensures)) (under_valid (seen c.args.self.now) ready.id ready.children ready.parent ready.body c.args.parcel ready.is)

pub add_all-requires-clause-fit : goal.add_all-requires-clause-fit
add_all-requires-clause-fit c =
    let ready = c.requires.ready in
    let store = seen c.args.self.now in
    same_fit store.dirs c.set_control.new.self.dirs c.args.parcel.children c.into_parts-children.result.0 (ap (λ q. q.0) c.into_parts-children.ensures) (ap (λ q. q.dirs) c.set_control.ensures) (under_fits store ready.id ready.children ready.parent ready.body c.args.parcel ready.is)

pub add_all-requires-clause-next : goal.add_all-requires-clause-next
add_all-requires-clause-next c =
    let ready = c.requires.ready in
    let store = seen c.args.self.now in
    row_at store.next c.set_control.new.self.next c.into_parts-children.result.0 c.args.parcel.children (ap (λ q. q.0) c.into_parts-children.ensures) (ap (λ q. q.next) c.set_control.ensures) (under_row store ready.id ready.children ready.parent ready.body c.args.parcel ready.is)

pub returns-clause-id : goal.returns-clause-id
returns-clause-id c = λ id children parent body is. c.id-id.ensures ∙ under_id (seen c.args.self.now) id children parent body c.args.parcel is

pub returns-clause-is : goal.returns-clause-is
returns-clause-is c = λ id children parent body is.
    let store = seen c.args.self.now in
    let parcel = c.args.parcel in
    let kids : c.into_parts-children.result.0 ≡ parcel.children = ap (λ q. q.0) c.into_parts-children.ensures in
    let one = c.set_control.new.self in
    let more = c.add_all.new.self in
    taken_under store id c.id-id.result c.into_control.result children parent body parcel one more is
    (c.id-id.ensures ∙ under_id store id children parent body parcel is)
    (c.into_control.ensures ∙ ap (λ q. q.1.entry.control) c.into_parts-children.ensures)
    c.set_control.ensures c.add_all.ensures.dirs
    (c.add_all.ensures.items ∙ ap (λ (q : List Part). one.items ++ map queued q) kids)
    (c.add_all.ensures.next ∙ ap (λ (q : List Part). one.next + length q) kids)
    (ap (λ (q : List Part). more.room + length q) (sym kids) ∙ c.add_all.ensures.room)
