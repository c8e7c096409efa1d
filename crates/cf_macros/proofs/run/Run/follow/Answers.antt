use Rattle.std.proofs.Common.{◌∙◌, refl, arith, ap, unwrap_or, []}
use Rattle.mail_base.specs.Catalogs.{value_at}
use Rattle.cf_macros.specs.inner.Runs.{left}
use Rattle.cf_macros.proofs.RunLemmas.{too-deep, too-many, follows, is-new}
use Rattle.cf_macros.proofs.run.Run.follow.Goals as goal

pub returns-then-len-ge-MOST_LEVELS-clause-err : goal.returns-then-len-ge-MOST_LEVELS-clause-err
returns-then-len-ge-MOST_LEVELS-clause-err c =
    too-deep c.args.self.now.below.items c.args.macros.now (left c.args.self.now.followed) c.args.self.now.given.text c.args.self.now.level c.args.name.now
    (omega (arith, c.args.self.now.below.ok, c.len.ensures, c.if-len-ge-MOST_LEVELS.true))

pub returns-then-self-ge-MOST_REFERENCES-clause-err : goal.returns-then-self-ge-MOST_REFERENCES-clause-err
returns-then-self-ge-MOST_REFERENCES-clause-err c =
    too-many c.args.self.now.below.items c.args.macros.now c.args.self.now.followed c.args.self.now.given.text c.args.self.now.level c.args.name.now
    (omega (arith, c.args.self.now.below.ok, c.len.ensures, c.if-len-ge-MOST_LEVELS.false)) c.if-self-ge-MOST_REFERENCES.true

pub returns-clause-same : goal.returns-clause-same
returns-clause-same c =
    follows c.args.self.now.below.items c.push.new.self.items c.args.macros.now c.args.self.now.followed _ c.args.self.now.given.text c.args.self.now.level c.new-self.result c.args.name.now
    (omega (arith, c.args.self.now.below.ok, c.len.ensures, c.if-len-ge-MOST_LEVELS.false)) c.if-self-ge-MOST_REFERENCES.false refl c.in_ok-push.ensures.items
    (is-new _ _ _ c.new-self.result (c.value_of.ensures ∙ ap (λ name. unwrap_or (value_at name c.args.macros.now) []) c.in_ok-name.ensures) c.new-self.ensures)
