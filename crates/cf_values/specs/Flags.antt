-- Flags (Sendmail Installation and Operation Guide, "M: Define Mailer" and "Q: Define Queue
-- Group").
use Rattle.std.specs.Prelude.{◌≡◌, ℕ, List, not, filter, codes, refl}
use Rattle.mail_base.specs.Whites.{is_white}

-- the bytes of a text that aren't white space
abbrev pub flags_of : List ℕ → List ℕ
flags_of text = filter (λ byte. not (is_white byte)) text

example : flags_of (codes "l s\tD") ≡ codes "lsD"
example = refl
