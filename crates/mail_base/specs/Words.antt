-- The words of a text (Sendmail Installation and Operation Guide, the configuration file; which
-- bytes are white space is our own).
use Rattle.std.specs.Prelude.{◌≡◌, ◌==◌, ℕ, not, List, [], ◌∷◌, length, filter, codes, refl}
use Rattle.std.specs.List.{slice_split}
use Rattle.mail_base.specs.Whites.{is_white}

-- its longest runs of bytes that aren't white space
abbrev pub words_of : List ℕ → List (List ℕ)
words_of text = filter (λ word. not (length word == 0)) (slice_split is_white text)

example : words_of (codes " a  b\tcd") ≡ codes "a" ∷ codes "b" ∷ codes "cd" ∷ []
example = refl
