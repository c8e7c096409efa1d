use Rattle.std.proofs.Common.{◌≡◌, ◌+◌, ◌/◌, ◌%◌, ◌∷◌, ℕ, List, map, take, ap, ◌∙◌, arith, take_all, length-take}
use Rattle.mail_base.specs.Notes.{noted, blanked}
use Rattle.mailer_smtp.specs.Texts.{note_of}
use Rattle.mailer_smtp.proofs.hear.note.Goals as goal

noted_front : (xs : List ℕ) → noted (take 512 xs) ≡ noted xs
noted_front xs = ap (map blanked) (take_all 512 (take 512 xs) (omega (arith, length-take 512 xs)))

pub returns : goal.returns
unfolding note_of
returns c = c.in-Some.ensures.value ∙ ap noted (c.as_slice.ensures.value ∙ c.said-line.ensures) ∙ noted_front ((48 + c.args.code / 100) ∷ (48 + c.args.code / 10 % 10) ∷ (48 + c.args.code % 10) ∷ 32 ∷ c.args.text.now)
