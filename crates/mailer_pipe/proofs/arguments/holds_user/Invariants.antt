use Rattle.std.proofs.Common.{◌≡◌, ◌≤◌, ◌-◌, drop, length}
use Rattle.mailer_pipe.specs.Arguments.{holds_user}
use Rattle.mailer_pipe.proofs.arguments.holds_user.Given as goal

abbrev pub invariant-bytes : goal.invariant-bytes
invariant-bytes l = (l.place ≤ length l.word) × (holds_user (drop l.place l.word) ≡ holds_user l.word)

abbrev pub decreases-bytes : goal.decreases-bytes
decreases-bytes l = length l.word - l.place
