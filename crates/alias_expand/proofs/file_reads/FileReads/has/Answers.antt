use Rattle.std.proofs.Common.{◌∙◌, refl, sym}
use Rattle.alias_expand.proofs.TripleLemmas.{has_file}
use Rattle.alias_expand.proofs.file_reads.FileReads.has.Goals as goal

pub returns : goal.returns
returns c = rw (sym c.self.view_is) (c.contains.ensures ∙ has_file _ c.in_ok-file_key.field-0 _ _ _ c.in_ok-file_key.ensures (λ key. refl))
