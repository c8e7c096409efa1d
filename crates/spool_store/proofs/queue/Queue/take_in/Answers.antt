-- The parent has the first free id, and its children the next ones.
use Rattle.std.proofs.Common.{◌≡◌, ◌∙◌, ◌+◌, ◌++◌, ◌∷◌, [], List, ap, length, map, subst, sym}
use Rattle.spool_store.specs.Keepers.{seen}
use Rattle.spool_store.specs.declared.held.Held.{Held}
use Rattle.spool_store.specs.declared.part.Part.{Part}
use Rattle.spool_store.specs.inner.Commits.{queued}
use Rattle.spool_store.specs.Openings.{IsFitting}
use Rattle.spool_store.proofs.Fitting.{same_fit}
use Rattle.spool_store.proofs.ParcelLemmas.{parcel_fits, parcel_id, parcel_row, parent_fits, row_at, taken_in}
use Rattle.spool_store.proofs.queue.Queue.take_in.Goals as goal

pub add-requires-clause-next : goal.add-requires-clause-next
add-requires-clause-next c =
    let ready = c.requires.ready in
    ap (λ (h : Held). h.entry.id) c.into_held.ensures ∙ ap (λ q. q.1.entry.id) c.into_parts-children.ensures ∙ parcel_id (seen c.args.self.now) ready.children ready.parent ready.body c.args.parcel ready.is

pub add_all-requires-clause-next : goal.add_all-requires-clause-next
add_all-requires-clause-next c =
    let ready = c.requires.ready in
    let store = seen c.args.self.now in
    row_at (store.next + 1) c.add.new.self.next c.into_parts-children.result.0 c.args.parcel.children (ap (λ q. q.0) c.into_parts-children.ensures) c.add.ensures.next (parcel_row store ready.children ready.parent ready.body c.args.parcel ready.is)

pub add-requires-clause-fit : goal.add-requires-clause-fit
add-requires-clause-fit c =
    let ready = c.requires.ready in
    let store = seen c.args.self.now in
    subst (λ (h : Held). IsFitting store.dirs h.entry) (sym (c.into_held.ensures ∙ ap (λ q. queued q.1) c.into_parts-children.ensures)) (parent_fits store ready.children ready.parent ready.body c.args.parcel ready.is)

pub add_all-requires-clause-fit : goal.add_all-requires-clause-fit
add_all-requires-clause-fit c =
    let ready = c.requires.ready in
    let store = seen c.args.self.now in
    same_fit store.dirs c.add.new.self.dirs c.args.parcel.children c.into_parts-children.result.0 (ap (λ q. q.0) c.into_parts-children.ensures) c.add.ensures.dirs (parcel_fits store ready.children ready.parent ready.body c.args.parcel ready.is)

pub returns-clause-id : goal.returns-clause-id
returns-clause-id c =
    let ready = c.requires.ready in
    c.id-id.ensures ∙ parcel_id (seen c.args.self.now) ready.children ready.parent ready.body c.args.parcel ready.is

pub returns-clause-is : goal.returns-clause-is
returns-clause-is c = λ children parent body is.
    let store = seen c.args.self.now in
    let parcel = c.args.parcel in
    let kids : c.into_parts-children.result.0 ≡ parcel.children = ap (λ q. q.0) c.into_parts-children.ensures in
    let held : c.into_held.result ≡ queued parcel.parent = c.into_held.ensures ∙ ap (λ q. queued q.1) c.into_parts-children.ensures in
    taken_in store children parent body parcel c.add.new.self c.add_all.new.self is c.add.ensures.dirs c.add_all.ensures.dirs
    (c.add.ensures.items ∙ ap (λ (h : Held). store.entries ++ h ∷ []) held) c.add.ensures.next c.add.ensures.room
    (c.add_all.ensures.items ∙ ap (λ (q : List Part). c.add.new.self.items ++ map queued q) kids)
    (c.add_all.ensures.next ∙ ap (λ (q : List Part). c.add.new.self.next + length q) kids)
    (ap (λ (q : List Part). c.add_all.new.self.room + length q) (sym kids) ∙ c.add_all.ensures.room)
