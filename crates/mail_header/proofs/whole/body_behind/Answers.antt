use Rattle.std.proofs.Common.{sym, subst}
use Rattle.std.proofs.lemmas.List.{take_rest}
use Rattle.mail_header.specs.Headers.{IsBody}
use Rattle.mail_header.proofs.WholeLemmas.{short_body, body_cut, body_whole}
use Rattle.mail_header.proofs.whole.body_behind.Goals as goal
use Rattle.mail_header.proofs.whole.body_behind.Goals.{else-rest-eq13-via-then-rest-eq13+else-rest-eq10, else-rest-eq13-via-else-rest-eq13}

pub returns-then-rest-lt2 : goal.returns-then-rest-lt2
returns-then-rest-lt2 c = short_body c.args.rest.now c.if-rest-lt2.true

pub returns-then-rest-eq10 : goal.returns-then-rest-eq10
returns-then-rest-eq10 c = subst (IsBody c.args.rest.now) (sym (take_rest c.args.rest.now 2)) (body_cut c.args.rest.now c.if-rest-lt2.false c.if-rest-eq13.true c.if-rest-eq10.true)

pub returns : goal.returns
returns c =
    body_whole c.args.rest.now (λ a b.
    elim c.else-rest-eq13.branch [
      | else-rest-eq13-via-then-rest-eq13+else-rest-eq10 w ↦ w.if-rest-eq10.false b
      | else-rest-eq13-via-else-rest-eq13 w ↦ w.if-rest-eq13.false a
    ])
