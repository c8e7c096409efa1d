use Rattle.std.proofs.Common.{ap, ◌∙◌, position}
use Rattle.mail_base.specs.Rulesets.{is_named}
use Rattle.mail_base.proofs.BookLemmas.{indexed_first}
use Rattle.mail_base.proofs.book.Book.place_of.Goals as goal

pub returns : goal.returns
returns c =
    c.find.ensures.first (indexed_first c.self.inside.sets.items c.deref.result.now c.self.inside.places c.deref.ensures.value c.self.invariant)
    ∙ ap (position (is_named c.args.name.now)) (c.deref.ensures.value ∙ c.self.view_is)
