use Rattle.std.proofs.Common.{◌≤◌, length, refl, ap, sym, subst, ◌∙◌}
use Rattle.mail_submit.specs.Inputs.{read}
use Rattle.mail_submit.proofs.BehindLemmas.{taken_back}
use Rattle.mail_submit.specs.Parts.{Parts}
use Rattle.mail_submit.proofs.input.Input.end.Goals as goal

pub returns-in-Ok-clause-text : goal.returns-in-Ok-clause-text
returns-in-Ok-clause-text c = rw (sym c.self.view_is) (λ dot bytes holds. c.take_text.ensures.text ∙ c.in-Ok.ensures.text dot (read dot bytes) holds)

pub returns-in-Ok-clause-within : goal.returns-in-Ok-clause-within
returns-in-Ok-clause-within c = subst (λ t. length t ≤ c.args.most) (sym c.take_text.ensures.text) c.in-Ok.ensures.within

pub returns-in-Ok-clause-none : goal.returns-in-Ok-clause-none
returns-in-Ok-clause-none c = rw (sym c.self.view_is) (λ dot bytes holds. record {
  counts = c.end_within.ensures.behind.dot ∙ holds.counts;
  text = ap (λ (p : Parts). p.text) c.take_text.ensures.none;
  line = ap (λ (p : Parts). p.line) c.take_text.ensures.none;
  ended = refl;
})

pub returns-in-Err-clause-large : goal.returns-in-Err-clause-large
returns-in-Err-clause-large c = rw (sym c.self.view_is) (λ dot bytes holds. c.in-Err.ensures.large dot (read dot bytes) holds)

pub returns-in-Err-clause-err : goal.returns-in-Err-clause-err
returns-in-Err-clause-err c =
    let behind = c.end_within.ensures.behind in
    let old = c.self.inside.held in
    rw (sym c.self.view_is) (taken_back old c.end_within.new.self c.end_within.new.self.ended c.back_to.new.self behind c.end_within.ensures.ended
    (c.back_to.ensures old.buffer behind.front c.mark-mark.ensures.text c.mark-mark.ensures.whole))
