-- Each entry's id is below the first free one.
use Rattle.std.proofs.Common.{◌<◌, subst}
use Rattle.std.proofs.lemmas.List.Elements.{All-contains}
use Rattle.spool_store.specs.declared.held.Held.{Held}
use Rattle.spool_store.proofs.shelf.Shelf.known.Goals as goal

pub returns-clause-below : goal.returns-clause-below
returns-clause-below c = subst (λ n. n < c.args.self.now.next) c.requires.is (All-contains (λ (h : Held). h.entry.id < c.args.self.now.next) c.args.self.now.items c.requires.held c.items.ensures.below c.requires.among)
