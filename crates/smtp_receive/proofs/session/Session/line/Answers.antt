use Rattle.std.proofs.Common.{◌∙◌}
use Rattle.smtp_receive.specs.Dialogue.{exchanges}
use Rattle.smtp_receive.proofs.KeepLemmas.{dropped_by, question_is}
use Rattle.smtp_receive.proofs.LineLemmas.{line_answered, line_bounded}
use Rattle.smtp_receive.proofs.session.Session.line.Goals as goal

pub returns-clause-answered : goal.returns-clause-answered
returns-clause-answered g c =
    λ host peer heard k.
    line_answered c.answer.result _ _ c.answer.new.self c.args.config.now host peer heard c.args.line.now
    (c.answer.ensures.goes host peer (exchanges c.args.config.now peer heard) k)

pub returns-clause-silent : goal.returns-clause-silent
returns-clause-silent g c =
    λ host peer heard k dropped.
    let none = dropped_by c.args.self.now c.args.config.now host peer (exchanges c.args.config.now peer heard) c.args.line.now k dropped in c.answer.ensures.silent none.0 none.1

pub returns-clause-bounded : goal.returns-clause-bounded
returns-clause-bounded g c =
    λ host peer heard k.
    line_bounded c.answer.result _ _ c.answer.new.self c.args.config.now host peer heard c.args.line.now
    (c.answer.ensures.goes host peer (exchanges c.args.config.now peer heard) k)

pub returns-clause-unasked : goal.returns-clause-unasked
returns-clause-unasked g c =
    λ host peer heard k none.
    c.answer.ensures.unasked (question_is c.args.self.now c.args.config.now host peer (exchanges c.args.config.now peer heard) c.args.line.now k ∙ none)

pub returns-clause-quiet : goal.returns-clause-quiet
returns-clause-quiet g c =
    λ host peer heard k none.
    c.answer.ensures.quiet (question_is c.args.self.now c.args.config.now host peer (exchanges c.args.config.now peer heard) c.args.line.now k ∙ none)

pub returns-clause-cause : goal.returns-clause-cause
returns-clause-cause g c = c.answer.ensures.uses.cause

pub returns-clause-calm : goal.returns-clause-calm
returns-clause-calm g c = c.answer.ensures.uses.calm

pub returns-clause-steady : goal.returns-clause-steady
returns-clause-steady g c = c.answer.ensures.uses.steady
