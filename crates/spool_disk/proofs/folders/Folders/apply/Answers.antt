-- A change of each kind.
use Rattle.std.proofs.Common.{sym, subst}
use Rattle.std.proofs.lemmas.Result.{on_ok_weaker}
use Rattle.spool_disk.specs.Changes.{after}
use Rattle.spool_disk.specs.inner.Folders.{Holds}
use Rattle.spool_disk.proofs.Filing.{removed_is_gone, written_is_held}
use Rattle.spool_disk.proofs.folders.Folders.apply.Goals as goal

pub returns-in-Write-clause-ok : goal.returns-in-Write-clause-ok
returns-in-Write-clause-ok c = on_ok_weaker c.put.result (λ set files h. subst (λ change. Holds c.put.new.self (after change files)) (sym c.in-Write.is) (written_is_held c.in-Write.dir c.in-Write.name c.in-Write.bytes c.args.self.now c.put.new.self files set h)) c.put.ensures.ok

pub returns-in-Remove-clause-ok : goal.returns-in-Remove-clause-ok
returns-in-Remove-clause-ok c files h = subst (λ change. Holds c.take.new.self (after change files)) (sym c.in-Remove.is) (removed_is_gone c.in-Remove.dir c.in-Remove.name c.args.self.now c.take.new.self files c.take.ensures h)
