use Rattle.std.proofs.Common.{Some, sym, ◌∙◌, ap}
use Rattle.mail_base.specs.Masks.{edge}
use Rattle.rule_match.specs.inner.Heads.{have_heads}
use Rattle.rule_match.proofs.Heads.{no_heads}
use Rattle.rule_match.proofs.matcher.find_into.Goals as goal

pub returns-else-have_heads-clause-none : goal.returns-else-have_heads-clause-none
returns-else-have_heads-clause-none c = λ no.
    no_heads c.args.classes.now c.args.mask c.args.tokens.now c.args.pattern.now c.requires.mask
    (ap (have_heads c.args.mask c.args.classes.now (Some edge)) (sym c.items-items.ensures.items) ∙ sym c.have_heads.ensures ∙ no) c.args.late.now
