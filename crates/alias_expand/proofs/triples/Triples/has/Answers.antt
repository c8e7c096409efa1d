use Rattle.std.proofs.Common.{◌∙◌, refl, sym}
use Rattle.alias_expand.specs.inner.Holding.{triple_of}
use Rattle.alias_expand.specs.Triples.{is_same}
use Rattle.alias_expand.proofs.TripleLemmas.{any_held}
use Rattle.alias_expand.proofs.triples.Triples.has.Goals as goal

pub returns : goal.returns
returns c = rw (sym c.in_ok-key_of.ensures, sym c.self.view_is) (c.contains.ensures ∙ any_held _ (is_same (triple_of c.in_ok-key_of.field-0)) (λ key. refl) _)
