use Rattle.std.proofs.Common.{refl, sym}
use Rattle.alias_expand.proofs.TripleLemmas.{add_file}
use Rattle.alias_expand.proofs.file_reads.FileReads.add.Goals as goal

pub returns-clause-ok : goal.returns-clause-ok
returns-clause-ok c = rw (sym c.self.view_is) (add_file _ c.in_ok-file_key.field-0 _ _ _ _ c.in_ok-file_key.ensures (λ other. refl) c.in_ok-insert_full.ensures.keys)
