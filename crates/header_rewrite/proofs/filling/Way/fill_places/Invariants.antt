use Rattle.std.proofs.Common.{ℕ, List, ◌++◌, length, drop}
use Rattle.mail_header.specs.Places.{AreApart}
use Rattle.header_rewrite.specs.inner.Filling.{FillsBy}
use Rattle.header_rewrite.proofs.filling.Way.fill_places.Given as goal

-- what fills the rest of the header fills all of it, behind the text so far
abbrev pub invariant-places : goal.invariant-places
invariant-places l = record {
  apart : AreApart l.from (drop l.index l.places) (length l.header);
  fills : (more : List ℕ) → FillsBy l.self l.header l.from (drop l.index l.places) more → FillsBy l.self l.header 0 l.places (l.text ++ more);
}
