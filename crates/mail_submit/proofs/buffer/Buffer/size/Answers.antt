use Rattle.std.proofs.Common.{◌+◌, length, sym, ap, ◌∙◌, arith}
use Rattle.std.proofs.lemmas.List.{length-drop, length-take-le}
use Rattle.mail_submit.specs.Inputs.{counted}
use Rattle.mail_submit.specs.Parts.{Parts}
use Rattle.mail_submit.proofs.buffer.Buffer.size.Goals as goal

pub overflow_add-result : goal.overflow_add-result
overflow_add-result c =
    let inside = c.self.inside in
    let line_is = c.line.ensures ∙ sym (ap (λ (p : Parts). p.line) c.self.view_is) in
    omega (arith, c.self.invariant, inside.bytes.ok, inside.bytes.small, c.counted.ensures.within, ap length line_is, length-drop inside.start inside.bytes.items)

pub returns : goal.returns
returns c =
    let inside = c.self.inside in
    let size = length-take-le inside.start inside.bytes.items (omega (arith, c.self.invariant, inside.bytes.ok.0)) in
    ap (λ n. inside.start + n) (c.counted.ensures.count ∙ ap counted c.line.ensures)
    ∙ ap (λ n. n + counted c.args.self.now.line) (sym size ∙ ap (λ (p : Parts). length p.text) c.self.view_is)
