use Rattle.std.proofs.Common.{◌≡◌, ◌∷◌, [], subst}
use Rattle.std.specs.Prelude.{nat_eq}
use Rattle.std.specs.Cmp.Lexicographic.{pointwise}
use Rattle.qf_format.proofs.SignedLemmas.{told}
use Rattle.qf_format.proofs.parsing.is_end.Goals as goal

pub returns : goal.returns
returns c = told c.args.bytes.now (46 ∷ 10 ∷ []) c.eq.result (subst (λ t. c.eq.result ≡ pointwise nat_eq c.args.bytes.now t) c.as_slice.ensures c.eq.ensures)
