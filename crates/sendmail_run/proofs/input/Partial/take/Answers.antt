use Rattle.std.proofs.Common.{◌∙◌, ◌-◌, ℕ, ap, arith}
use Rattle.mail_base.specs.Limits.{most_line}
use Rattle.sendmail_run.specs.inner.Taking.{most_kept}
use Rattle.sendmail_run.proofs.KeepLemmas.{took_all, took_front}
use Rattle.sendmail_run.proofs.input.Partial.take.Goals as goal

pub returns-then-bytes-room-clause-ok : goal.returns-then-bytes-room-clause-ok
unfolding most_kept most_line
returns-then-bytes-room-clause-ok c =
    took_all c.args.self.now c.extend.new.self c.args.bytes.now c.saturating_sub-room.result c.extend.result c.extend.ensures.ok
    (c.saturating_sub-room.ensures ∙ ap (λ (n : ℕ). most_kept - n) c.len.ensures) c.if-bytes-room.true

pub returns-in_ok-extend-clause-ok : goal.returns-in_ok-extend-clause-ok
unfolding most_kept most_line
returns-in_ok-extend-clause-ok c =
    took_front c.args.self.now c.extend-else-bytes-room.new.self c.args.bytes.now c.saturating_sub-room.result c.in_ok-extend.ensures.ok
    (c.saturating_sub-room.ensures ∙ ap (λ (n : ℕ). most_kept - n) c.len.ensures) (omega arith)
