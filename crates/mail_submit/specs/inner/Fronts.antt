-- How bytes that are held grow.
use Rattle.std.specs.Prelude.{◌≡◌, List, ℕ, ◌++◌}
use Rattle.mail_submit.specs.Parts.{Parts}

abbrev pub whole : Parts → List ℕ
whole parts = parts.text ++ parts.line

-- bytes stand behind those that were there
pub record IsFront (earlier now : Parts) : Type 0 where
  pub more : List ℕ
  pub grown : whole now ≡ whole earlier ++ more
