use Rattle.std.proofs.Common.{◌≡◌, ℕ, List, ◌++◌, length}
use Rattle.mail_base.specs.declared.config.Config.{Config}
use Rattle.sendmail_run.specs.Printing.{basis}
use Rattle.sendmail_run.specs.inner.Taking.{Stands}
use Rattle.sendmail_run.proofs.address_test.answer_lines.Given as goal

-- the lines of a front of the piece are answered
abbrev pub invariant-loop-parts : goal.invariant-loop-parts
invariant-loop-parts l =
    (start : Config) (taken text : List ℕ) → Stands (basis start l.fn.maps) l.fn.config taken l.fn.partial text
    → (front : List ℕ) × (l.fn.bytes ≡ front ++ l.rest) × Stands (basis start l.fn.maps) l.config (taken ++ front) l.partial (text ++ l.text)

abbrev pub decreases-loop-parts : goal.decreases-loop-parts
decreases-loop-parts l = length l.rest
