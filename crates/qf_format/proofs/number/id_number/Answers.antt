use Rattle.std.proofs.Common.{subst, ◌∙◌}
use Rattle.std.specs.Str.Parse.{ParsesUnsigned}
use Rattle.qf_format.proofs.SignedLemmas.{id_parses, id_is_text}
use Rattle.qf_format.proofs.number.id_number.Goals as goal

pub returns-in-Ok : goal.returns-in-Ok
returns-in-Ok c =
    let parsed = subst (λ t. ParsesUnsigned 64 10 t c.parse.result) c.in-Ok.ensures.cases.0 c.parse.ensures.value.0 in
    λ n small e. c.ok.ensures.value ∙ id_parses c.args.text.now c.parse.result parsed n small e

pub returns-in-Err : goal.returns-in-Err
returns-in-Err c = λ n small e. absurd (c.in-Err.ensures.cases.0 (id_is_text c.args.text.now n small e))
