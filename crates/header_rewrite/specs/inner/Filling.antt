-- A text that grows by what stands before a place and by what the address there becomes.
use Rattle.std.specs.Prelude.{◌≡◌, ℕ, List, ◌++◌}
use Rattle.mail_header.specs.declared.span.Span.{Span}
use Rattle.header_rewrite.specs.Rewriting.{Becomes, Fills}
use Rattle.header_rewrite.specs.inner.Ways.{Way}

abbrev pub FillsBy : Way → List ℕ → ℕ → List Span → List ℕ → Type 0
FillsBy way header from places text = Fills way.site way.macros way.sets header from places text

pub record Adds (way : Way) (front address old new : List ℕ) : Type 0 where
  pub text : List ℕ
  pub becomes : Becomes way.site way.macros way.sets address text
  pub whole : new ≡ old ++ (front ++ text)
