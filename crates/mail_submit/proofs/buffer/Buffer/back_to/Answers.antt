use Rattle.std.proofs.Common.{length, sym, subst, ap, ◌∙◌}
use Rattle.std.specs.Prelude.{min}
use Rattle.mail_submit.specs.inner.Fronts.{IsFront}
use Rattle.mail_submit.proofs.BufferLemmas.{cut_back, parts}
use Rattle.mail_submit.proofs.buffer.Buffer.back_to.Goals as goal

pub returns : goal.returns
returns c = λ earlier front text whole.
    let inside = c.self.inside in
    let now = c.truncate.new.self in
    let least = c.min-self-inside.ensures ∙ ap (min c.args.mark.text) (c.len.ensures ∙ now.ok.0 ∙ ap length c.truncate.ensures.items) in
    ap (parts c.min-self-inside.result) c.truncate.ensures.items
    ∙ cut_back earlier inside.start inside.bytes.items (subst (IsFront earlier) (sym c.self.view_is) front) c.args.mark.text c.args.mark.whole c.min-self-inside.result text whole least
