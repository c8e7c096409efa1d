-- By the flag m.
use Rattle.std.proofs.Common.{Bool, if◌then◌else◌, sym, ap, ◌∙◌}
use Rattle.queue_run.proofs.splitting.most_of.Goals as goal

pub returns-then-has_flag : goal.returns-then-has_flag
returns-then-has_flag c = sym (ap (λ (b : Bool). if b then c.args.mailer.now.batch else 1) (sym c.has_flag.ensures ∙ c.if-has_flag.true))

pub returns : goal.returns
returns c = sym (ap (λ (b : Bool). if b then c.args.mailer.now.batch else 1) (sym c.has_flag.ensures ∙ c.if-has_flag.false))
