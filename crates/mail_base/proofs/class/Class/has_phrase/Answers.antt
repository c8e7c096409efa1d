use Rattle.std.proofs.Common.{ap, sym, ◌∙◌}
use Rattle.mail_base.specs.Masks.{heads_of}
use Rattle.mail_base.specs.inner.Phrases.{may_begin}
use Rattle.mail_base.proofs.HeadLemmas.{no_phrase}
use Rattle.mail_base.proofs.class.Class.has_phrase.Goals as goal

pub returns-else-may_begin : goal.returns-else-may_begin
returns-else-may_begin c =
    let tokens = c.args.tokens.now in
    let heads = c.self.invariant.heads ∙ ap heads_of c.self.view_is in
    let none = ap (λ mask. may_begin mask tokens) (sym heads) ∙ sym c.may_begin.ensures ∙ c.if-may_begin.false in
    c.if-may_begin.false ∙ sym (no_phrase c.args.self.now tokens none)
