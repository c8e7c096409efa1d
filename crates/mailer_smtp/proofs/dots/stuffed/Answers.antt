use Rattle.std.proofs.Common.{◌≡◌, ◌≤◌, ℕ, List, ◌∷◌, ◌++◌, length, drop, ap, sym, ◌∙◌, arith}
use Rattle.std.proofs.lemmas.List.{drop_all}
use Rattle.mail_base.specs.Texts.{crlf}
use Rattle.mailer_smtp.specs.declared.dots.LinePlace.{LinePlace}
use Rattle.mailer_smtp.specs.declared.dots.LinePlace.TheVariants.{LineStart}
use Rattle.mailer_smtp.specs.Texts.{dotted, dotted_from, ends_from}
use Rattle.mailer_smtp.proofs.dots.stuffed.Goals as goal

whole : (text message : List ℕ) (place : LinePlace) (index : ℕ) → text ++ dotted_from place (drop index message) ≡ dotted_from LineStart message → length message ≤ index → text ++ ends_from place ≡ dotted_from LineStart message
whole text message place index h all = sym (ap (λ xs. text ++ dotted_from place xs) (drop_all index message all)) ∙ h

pub returns : goal.returns
unfolding dotted
returns c = c.in_ok-extend-2.ensures.ok ∙ ap (λ xs. xs ++ 46 ∷ crlf) (c.in_ok-extend.ensures.ok ∙ ap (λ xs. c.loop-byte.text ++ xs) c.end_of.ensures ∙ whole c.loop-byte.text c.args.message.now _ _ c.loop-byte.invariant (omega arith))
