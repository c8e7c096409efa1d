-- The names are those of the entry's draft and control file.
use Rattle.std.proofs.Common.{◌∙◌, ap, sym}
use Rattle.mail_base.specs.Names.{name_of}
use Rattle.mail_base.specs.declared.id.Kind.TheVariants.{Qf, Tf}
use Rattle.spool_store.specs.inner.Parts.{with_new}
use Rattle.spool_store.specs.declared.held.Held.{Held}
use Rattle.spool_store.proofs.Shelving.{held_is}
use Rattle.spool_store.proofs.queue.Queue.write_control.Goals as goal

pub returns-clause-moves : goal.returns-clause-moves
returns-clause-moves g c = λ f h control k has said can.
    c.put_raised.ensures.moves f c.args.self.now.shelf.next (with_new h control)
    (ap (λ (q : Held). q.entry.dir) (held_is c.args.self.now.shelf.items c.items-items.result.now c.args.id c.place-place.result c.index-items-place.result h c.items-items.ensures.items c.items-items.ensures.ascending c.place-place.ensures.at k has))
    (c.text.ensures ∙ c.write.ensures ∙ ap (name_of Tf) (sym has))
    (c.text-2.ensures ∙ c.write-2.ensures ∙ ap (name_of Qf) (sym has))
    said can
