-- A call that went well is in the record, and one that failed is not.
use Rattle.std.proofs.Common.{rules}
use Rattle.spool_disk.specs.declared.change.Change.TheVariants.{Write}
use Rattle.spool_disk.specs.Changes.{after_all}
use Rattle.spool_disk.proofs.Placing.{has_written}
use Rattle.spool_disk.proofs.Recording.{calls_made}
use Rattle.spool_disk.proofs.mem_spool.MemSpoolSpool.write_new.Goals as goal

pub returns-clause-call : goal.returns-clause-call
returns-clause-call c =
    let old = c.args.self.now in
    let new = c.keep.new.self in
    calls_made old.start new.start old.past new.past (Write c.args.dir.now c.args.name.now c.args.bytes.now) old.script.faults new.script.faults c.keep.result (search rules) (search rules) (has_written c.args.dir.now c.args.name.now c.args.bytes.now (after_all old.past old.start))
