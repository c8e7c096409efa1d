use Rattle.std.proofs.Common.{◌≡◌, ℕ, ◌+◌, ◌<◌, take, true}
use Rattle.rule_match.specs.Wants.{want, meets}
use Rattle.rule_match.specs.inner.Rows.{has}
use Rattle.rule_match.proofs.rows.least_length.Given as goal

-- no shorter piece is a match up to a place whose bit is set
abbrev pub invariant-loop-length : goal.invariant-loop-length
invariant-loop-length g l = (m : ℕ) → m < l.length → meets (want l.classes l.late l.item) (take m l.left) ≡ true → has l.after (l.place + m) ≡ true → ⊥
