use Rattle.std.proofs.Common.{◌≡◌, ℕ, [], length, drop}
use Rattle.std.specs.Prelude.{vec_capacity}
use Rattle.link_edge.specs.Dials.{IsSoundAt}
use Rattle.mailer_smtp.specs.declared.kit.Kit.{Kit}
use Rattle.mailer_smtp.specs.declared.kit.Speech.{Speech}
use Rattle.mailer_smtp.specs.Plans.{receivers}
use Rattle.mailer_smtp.specs.inner.Steps.{Went}
use Rattle.mailer_smtp.proofs.converse.send_rcpts.Given as goal

pub record Sending (way : Type 0) (count index : ℕ) (before now : ℕ) (well : Type 0) : Type 0 where
  pub went : way
  pub size : count ≡ index
  pub capacity : now ≡ before
  pub sound : well

abbrev pub invariant-loop-rcpt : goal.invariant-loop-rcpt
invariant-loop-rcpt g l = Sending
    ((speech : Speech) (kit : Kit) → Went l.line (g.N.Dialer.seen l.fn.dialer) (g.N.Dialer.seen l.dialer) (receivers speech kit [] l.rcpts) l.fn.inbox (receivers speech kit l.rows.items (drop l.rcpt-index l.rcpts)) l.inbox)
    (length l.rows.items) l.rcpt-index (vec_capacity l.fn.rows) (vec_capacity l.rows) (IsSoundAt (g.N.Dialer.seen l.dialer) l.line)
