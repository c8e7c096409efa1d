use Rattle.std.proofs.Common.{ap, ◌∙◌}
use Rattle.std.specs.Vec.{vec_items}
use Rattle.mail_submit.specs.Parts.{Parts}
use Rattle.mail_submit.proofs.buffer.Buffer.take_text.Goals as goal

pub returns-clause-text : goal.returns-clause-text
returns-clause-text c = c.from_vec.ensures ∙ ap vec_items c.replace.ensures.value ∙ c.truncate.ensures.items ∙ ap (λ (p : Parts). p.text) c.self.view_is
