use Rattle.std.proofs.Common.{◌≡◌, ◌++◌, subst, ap, ◌∙◌, arith}
use Rattle.mail_submit.specs.Parts.{Parts}
use Rattle.mail_submit.proofs.BufferLemmas.{extended, parts}
use Rattle.mail_submit.proofs.buffer.Buffer.extend.Goals as goal

pub returns-clause-ok : goal.returns-clause-ok
returns-clause-ok c =
    let inside = c.self.inside in
    let bytes = c.args.bytes.now in
    let P : Parts → Type 0 = λ p. parts inside.start c.extend_from_slice.new.self.items ≡ record p { line = p.line ++ bytes } in
    subst P c.self.view_is (ap (parts inside.start) c.in_ok-extend_from_slice.ensures.items ∙ extended inside.start inside.bytes.items bytes (omega (arith, c.self.invariant, inside.bytes.ok.0)))
