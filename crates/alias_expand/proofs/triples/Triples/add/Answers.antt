use Rattle.std.proofs.Common.{refl, sym}
use Rattle.alias_expand.proofs.TripleLemmas.{add_held}
use Rattle.alias_expand.proofs.triples.Triples.add.Goals as goal

pub returns-clause-ok : goal.returns-clause-ok
returns-clause-ok c = rw (sym c.in_ok-key_of.ensures, sym c.self.view_is) (add_held _ c.in_ok-key_of.field-0 _ _ (λ other. refl) c.in_ok-insert_full.ensures.keys)
