use Rattle.std.proofs.Common.{◌≡◌, ◌<◌, drop}
use Rattle.std.specs.Prelude.{IfSome, Some}
use Rattle.mail_base.specs.Masks.{edge}
use Rattle.rule_match.specs.inner.Heads.{have_heads}
use Rattle.rule_match.proofs.matcher.have_heads.Given as goal

-- the items that are left decide
abbrev pub invariant-loop-item : goal.invariant-loop-item
invariant-loop-item l = record {
  place : IfSome l.before (λ place. place < 64);
  rest : have_heads l.mask l.classes (Some edge) l.items ≡ have_heads l.mask l.classes l.before (drop l.item-index l.items);
}
