use Rattle.std.proofs.Common.{◌≡◌, ℕ, ◌+◌, ◌<◌, take, true}
use Rattle.rule_match.specs.Wants.{Phrase, meets}
use Rattle.rule_match.specs.inner.Rows.{has}
use Rattle.rule_match.proofs.rows.phrase_length.Given as goal

-- no shorter piece is a phrase up to a place whose bit is set
abbrev pub invariant-loop-length : goal.invariant-loop-length
invariant-loop-length g l = (m : ℕ) → m < l.length → meets (Phrase l.class) (take m l.left) ≡ true → has l.after (l.place + m) ≡ true → ⊥
