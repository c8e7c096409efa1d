use Rattle.std.proofs.Common.{◌-◌, List, length, take, ◌∙◌, ap}
use Rattle.mail_base.specs.declared.token.Token.{Token}
use Rattle.addr_route.proofs.AimLemmas.{before_is}
use Rattle.addr_route.proofs.aim.before_end.Goals as goal

pub returns : goal.returns
returns c =
    let a = c.args in
    ap (λ (rest : List Token). take (length a.tokens.now - length rest) a.tokens.now) c.from_end-rest.ensures.tokens ∙ before_is a.hosts a.tokens.now
