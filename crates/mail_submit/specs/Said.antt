-- What the words of a run that hands a message over say (the manual page of Sendmail's own program,
-- -f).
use Rattle.std.specs.Prelude.{◌≡◌, ℕ, List, ◌∷◌, ◌++◌, [], All, IfSome, codes, refl}
use Rattle.mail_base.specs.Texts.{IsAddress, IsLine, without_angles}
use Rattle.mail_submit.specs.declared.words.SubmitWords.{SubmitWords}

-- a text in angles (60 and 62), of which it has one pair already or none
abbrev pub bracketed : List ℕ → List ℕ
bracketed text = 60 ∷ without_angles text ++ 62 ∷ []

-- each address is one line that isn't empty, and the sender is one line
pub record AreSaid (words : SubmitWords) : Type 0 where
  pub addresses : All IsAddress words.addresses
  pub sender : IfSome words.sender IsLine

example : (bracketed (codes "ann@mx") ≡ codes "<ann@mx>")
    × (bracketed (codes "<ann@mx>") ≡ codes "<ann@mx>")
    × (bracketed (codes "<") ≡ codes "<<>")
example = (refl, refl, refl)
