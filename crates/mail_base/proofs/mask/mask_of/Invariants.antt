use Rattle.std.proofs.Common.{◌≡◌, ◌<◌, drop}
use Rattle.mail_base.specs.Masks.{mask_of, places_from, with_places}
use Rattle.mail_base.proofs.mask.mask_of.Given as goal

-- the tokens that are left add the rest
abbrev pub invariant-loop-token : goal.invariant-loop-token
invariant-loop-token l = record {
  place : l.before < 64;
  rest : mask_of l.tokens ≡ with_places l.mask (places_from l.before (drop l.token-index l.tokens));
}
