use Rattle.std.proofs.Common.{◌≡◌, ◌<◌, drop}
use Rattle.std.specs.Prelude.{IfSome, Some}
use Rattle.mail_base.specs.Masks.{edge, wanted_from, with_places}
use Rattle.mail_base.proofs.mask.wanted_mask.Given as goal

-- the items that are left add the rest
abbrev pub invariant-loop-item : goal.invariant-loop-item
invariant-loop-item l = record {
  place : IfSome l.before (λ place. place < 64);
  rest : with_places 0 (wanted_from (Some edge) l.items) ≡ with_places l.mask (wanted_from l.before (drop l.item-index l.items));
}
