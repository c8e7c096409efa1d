use Rattle.std.proofs.Common.{◌==◌, ◌||◌, false, refl, ◌∙◌, ap}
use Rattle.std.specs.List.{list_any}
use Rattle.std.proofs.lemmas.List.{get_or-replicate}
use Rattle.addr_tokens.specs.Pieces.{fixed_operators}
use Rattle.addr_tokens.proofs.table.Table.of.Goals as goal

pub returns : goal.returns
returns c = record {
  at = λ b within. c.list-2.ensures b within ∙ ap (λ t. t || list_any (λ o. o == b) fixed_operators) (c.list.ensures b within ∙ ap (λ t. t || list_any (λ o. o == b) c.args.operators.now) (get_or-replicate 256 b false false within));
  means = refl;
}
