use Rattle.std.proofs.Common.{length, sym, ap, ◌∙◌, arith}
use Rattle.std.proofs.lemmas.List.{length-take-le}
use Rattle.mail_submit.specs.Parts.{Parts}
use Rattle.mail_submit.specs.inner.Fronts.{whole}
use Rattle.mail_submit.proofs.BufferLemmas.{whole_length}
use Rattle.mail_submit.proofs.buffer.Buffer.mark.Goals as goal

pub returns-clause-text : goal.returns-clause-text
returns-clause-text c =
    let inside = c.self.inside in
    sym (length-take-le inside.start inside.bytes.items (omega (arith, c.self.invariant, inside.bytes.ok.0))) ∙ ap (λ (p : Parts). length p.text) c.self.view_is

pub returns-clause-whole : goal.returns-clause-whole
returns-clause-whole c =
    let inside = c.self.inside in
    c.len.ensures ∙ inside.bytes.ok.0 ∙ sym (whole_length inside.start inside.bytes.items) ∙ ap (λ (p : Parts). length (whole p)) c.self.view_is
