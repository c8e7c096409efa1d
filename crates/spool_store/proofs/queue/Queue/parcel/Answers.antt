-- The first free id is the parent's, and the next ones are the children's.
use Rattle.std.proofs.Common.{◌∙◌, ◌+◌, None, map}
use Rattle.spool_store.specs.Keepers.{seen}
use Rattle.spool_store.specs.Writes.{heir, numbered}
use Rattle.spool_store.proofs.Drafting.{parcel_is}
use Rattle.spool_store.proofs.queue.Queue.parcel.Goals as goal

pub returns : goal.returns
returns c =
    let store = seen c.args.self.now in
    let parent = c.args.parent.now in
    parcel_is store c.args.children.now parent c.args.body c.in_ok-children.children c.in_ok-parent.parent c.requires.can c.requires.ids c.requires.room
    (λ b. c.in_ok-children.ensures b ∙ (λ i. numbered (c.next-next.ensures i + 1) b (map (heir (record { id = (c.new-id.ensures ∙ c.next-next.ensures) i; revision = parent.control.revision })) (c.items.ensures i))))
    (c.in_ok-parent.ensures ∙ (λ i. record { id = (c.new-id.ensures ∙ c.next-next.ensures) i; dir = parent.dir; control = record parent.control { parent = None } }))
