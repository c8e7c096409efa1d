use Rattle.std.proofs.Common.{sym, ◌∙◌, Some}
use Rattle.mail_base.proofs.FileNames.{same_kind, same_number}
use Rattle.mail_base.proofs.id.Id.of.Goals as goal

pub returns-in-Some-clause-exact : goal.returns-in-Some-clause-exact
returns-in-Some-clause-exact c = λ k n l e.
    let s = c.in-Some.ensures.some in
    let p = same_kind c.in-Some.kind k c.in-Some.number n (sym s.1 ∙ e) in
    let q = same_number c.in-Some.kind k c.in-Some.number n s.0 l (sym s.1 ∙ e) in
    λ i. Some (p i, q i)
