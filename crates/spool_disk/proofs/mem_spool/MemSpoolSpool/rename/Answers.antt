-- A call that went well is in the record, and one that failed is not.
use Rattle.std.proofs.Common.{rules}
use Rattle.spool_disk.specs.declared.change.Change.TheVariants.{Rename}
use Rattle.spool_disk.specs.Changes.{after_all}
use Rattle.spool_disk.proofs.Placing.{has_renamed}
use Rattle.spool_disk.proofs.Recording.{calls_made}
use Rattle.spool_disk.proofs.mem_spool.MemSpoolSpool.rename.Goals as goal

pub returns-clause-call : goal.returns-clause-call
returns-clause-call c =
    let old = c.args.self.now in
    let new = c.keep.new.self in
    calls_made old.start new.start old.past new.past (Rename c.args.dir.now c.args.from.now c.args.to.now) old.script.faults new.script.faults c.keep.result (search rules) (search rules) (has_renamed c.args.dir.now c.args.from.now c.args.to.now (after_all old.past old.start) c.requires.apart c.requires.there)
