-- How a dialogue goes on behind RCPTs. It need not be believed: no public contract cites it.
use Rattle.std.specs.Prelude.{ℕ, List, ◌∷◌, Option, None, Some}
use Rattle.mail_base.specs.declared.outcome.Result1.{Result1}
use Rattle.mailer_smtp.specs.declared.kit.Kit.{Kit}
use Rattle.mailer_smtp.specs.declared.kit.Speech.{Speech}
use Rattle.mailer_smtp.specs.declared.verdict.Verdict.{Verdict}
use Rattle.mailer_smtp.specs.Plans.{Plan, receivers, answered, over}

-- one was settled, or there is no whole reply to it
abbrev pub after_rcpt : Speech → Kit → List Result1 → Option (List ℕ) → List (Option (List ℕ))
    → Option Verdict → Plan
after_rcpt speech kit rows rcpt left None = receivers speech kit rows left
after_rcpt speech kit rows rcpt left (Some reply) = over reply rows (rcpt ∷ left)

-- all were settled, or there is no whole reply to the first of these that are left
abbrev pub after_rcpts : Speech → Kit → List Result1 → List (Option (List ℕ)) → Option Verdict
    → Plan
after_rcpts speech kit rows left None = answered speech kit rows
after_rcpts speech kit rows left (Some reply) = over reply rows left
