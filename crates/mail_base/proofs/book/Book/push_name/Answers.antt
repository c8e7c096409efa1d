use Rattle.std.proofs.Common.{List, ◌<◌, length, subst, sym}
use Rattle.mail_base.specs.Rulesets.{Ruled}
use Rattle.mail_base.proofs.BookLemmas.{named_set}
use Rattle.mail_base.proofs.book.Book.push_name.Goals as goal

pub invariant_of-self-2 : goal.invariant_of-self-2
invariant_of-self-2 c = named_set c.push_name.result c.self.inside.sets.items c.args.place c.index_mut.result.now c.push_name.new.self c.args.name c.self.inside.places c.hold.new.self
    c.index_mut.ensures.value (subst (λ (sets : List Ruled). c.args.place < length sets) (sym c.self.view_is) c.requires) c.push_name.ensures.ok c.push_name.ensures.err c.hold.ensures.keeps c.in_ok-hold.ensures.held c.self.invariant
