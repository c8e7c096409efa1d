use Rattle.std.proofs.Common.{length, sym, ap, ◌∙◌, arith}
use Rattle.std.proofs.lemmas.List.{length-take-le}
use Rattle.mail_submit.specs.Parts.{Parts}
use Rattle.mail_submit.proofs.buffer.Buffer.text_len.Goals as goal

pub returns : goal.returns
returns c =
    let inside = c.self.inside in
    sym (length-take-le inside.start inside.bytes.items (omega (arith, c.self.invariant, inside.bytes.ok.0))) ∙ ap (λ (p : Parts). length p.text) c.self.view_is
