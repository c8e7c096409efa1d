use Rattle.std.proofs.Common.{◌≡◌, [], ◌++◌, length, subst, ap, ◌∙◌}
use Rattle.mail_submit.specs.Parts.{Parts}
use Rattle.mail_submit.proofs.BufferLemmas.{closed, parts}
use Rattle.mail_submit.proofs.buffer.Buffer.close.Goals as goal

pub returns-clause-ok : goal.returns-clause-ok
returns-clause-ok c =
    let inside = c.self.inside in
    let end = c.args.end.now in
    let now = c.extend_from_slice.new.self in
    let P : Parts → Type 0 = λ p. parts c.len-self-inside.result now.items ≡ record { text = p.text ++ (p.line ++ end); line = [] } in
    let grown = c.in_ok-extend_from_slice.ensures.items in
    subst P c.self.view_is (ap (parts c.len-self-inside.result) grown ∙ closed inside.start inside.bytes.items end c.len-self-inside.result (c.len-self-inside.ensures ∙ now.ok.0 ∙ ap length grown))
