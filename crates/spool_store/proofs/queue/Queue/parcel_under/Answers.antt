-- The entry's id is the parent's, and the first free ones are the children's.
use Rattle.std.proofs.Common.{◌∙◌, ◌<◌, map, subst}
use Rattle.mail_base.specs.Limits.{IsId}
use Rattle.spool_store.specs.Keepers.{seen}
use Rattle.spool_store.specs.Writes.{heir, numbered}
use Rattle.spool_store.proofs.UnderLemmas.{same_id, parcel_under}
use Rattle.spool_store.proofs.queue.Queue.parcel_under.Goals as goal

pub returns : goal.returns
returns c = λ id named.
    let store = seen c.args.self.now in
    let parent = c.args.parent.now in
    let at = same_id parent c.above-above.result.id id c.above-above.ensures.id named in
    parcel_under store id c.args.children.now parent c.args.body c.in_ok-children.children c.in_ok-parent.parent c.requires.can named
    (subst IsId at c.above-above.ensures.within) (subst (λ n. n < store.next) at c.above-above.ensures.below) c.requires.ids c.requires.room
    (λ b. c.in_ok-children.ensures b ∙ (λ i. numbered (c.next.ensures i) b (map (heir (record { id = at i; revision = c.above-above.ensures.revision i })) (c.items.ensures i))))
    (c.in_ok-parent.ensures ∙ (λ i. record { id = at i; dir = parent.dir; control = record parent.control { parent = parent.control.parent } }))
