use Rattle.std.proofs.Common.{ap, ◌∙◌}
use Rattle.std.specs.Prelude.{max}
use Rattle.mail_core.proofs.intake.Intake.at.Goals as goal

pub returns-clause-moment : goal.returns-clause-moment
returns-clause-moment c = ap (λ n. record c.args.self.now { moment = n }) (c.max-self.ensures ∙ ap (λ n. max c.args.self.now.moment n) c.moment_of.ensures)
