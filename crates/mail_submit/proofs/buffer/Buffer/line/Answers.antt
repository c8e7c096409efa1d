use Rattle.std.proofs.Common.{drop, ap, ◌∙◌}
use Rattle.std.proofs.lemmas.List.{take_rest}
use Rattle.mail_submit.specs.Parts.{Parts}
use Rattle.mail_submit.proofs.buffer.Buffer.line.Goals as goal

pub returns : goal.returns
returns c =
    let start = c.self.inside.start in
    take_rest c.deref.result.now start ∙ ap (drop start) c.deref.ensures.value ∙ ap (λ (p : Parts). p.line) c.self.view_is
