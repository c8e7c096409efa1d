use Rattle.std.proofs.Common.{ap, sym, refl}
use Rattle.mailer_smtp.specs.declared.verdict.Verdict.TheVariants.{Broken}
use Rattle.mailer_smtp.specs.Plans.{Hears, asks, device_fault}
use Rattle.mailer_smtp.proofs.TalkLemmas.{went_as, went_join}
use Rattle.mailer_smtp.proofs.hear.ask.Goals as goal

pub returns-then-not-say-clause-went : goal.returns-then-not-say-clause-went
returns-then-not-say-clause-went g c = λ go. went_as _ _ _ _ _ _ _ _ _ refl (ap go (sym c.broken.ensures)) (c.if-not-say.ensures.went (go (Broken device_fault)) (Hears c.args.wants go) c.args.inbox.now)

pub returns-clause-went : goal.returns-clause-went
returns-clause-went g c = λ go. went_join _ _ _ _ (asks c.args.text.now c.args.wants go) (Hears c.args.wants go) (go c.hear.result) _ _ _ (c.if-not-say.ensures.went (go (Broken device_fault)) (Hears c.args.wants go) c.args.inbox.now) (c.hear.ensures.went go)
