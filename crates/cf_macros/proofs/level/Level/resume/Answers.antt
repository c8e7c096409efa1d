use Rattle.cf_macros.proofs.StepLemmas.{resumes-behind}
use Rattle.cf_macros.proofs.level.Level.resume.Goals as goal

pub returns-in-Behind : goal.returns-in-Behind
returns-in-Behind c = resumes-behind c.args.self c.at-in-Behind.result c.args.gave c.in-Behind.place c.if-not-self.false c.if-gave-2.false c.at-in-Behind.ensures c.in-Behind.ensures.0 c.in-Behind.ensures.1
