use Rattle.std.proofs.Common.{◌+◌, ◌++◌, ◌∷◌, [], drop, ap, ◌∙◌}
use Rattle.std.proofs.lemmas.List.{take_rest}
use Rattle.mail_header.specs.Made.{tidied}
use Rattle.mail_header.specs.inner.Tidy.{tidy_first}
use Rattle.mail_header.proofs.MadeLemmas.{tidied_more}
use Rattle.mail_header.proofs.made.tidied.Goals as goal

pub loop-place-preserved : goal.loop-place-preserved
loop-place-preserved c =
    let text = c.args.text.now in
    let i = c.loop-place.place in
    ap (λ t. t ++ tidied (drop (i + 1) text)) (c.in_ok-push.ensures.ok ∙ ap (λ b. c.loop-place.tidy ++ b ∷ []) (c.tidy_first.ensures ∙ ap tidy_first (take_rest text i)))
    ∙ tidied_more text c.loop-place.tidy i c.loop-place-test.true
    ∙ c.loop-place.invariant
