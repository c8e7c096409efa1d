-- Each of the maps that are named may be left.
use Rattle.std.proofs.Common.{Some}
use Rattle.spool_disk.specs.Changes.{after_all}
use Rattle.spool_disk.specs.Stops.{stopped_call}
use Rattle.spool_disk.proofs.Stopping.{each_of}
use Rattle.spool_disk.proofs.stop_spool.StopSpool.images.Goals as goal

pub returns-in-Some-clause-each : goal.returns-in-Some-clause-each
returns-in-Some-clause-each c =
    let spool = c.args.self.now.spool in
    each_of (stopped_call spool.past) (Some c.in-Some.change.now) (after_all spool.past spool.start) c.in_ok-files.files c.left_by.result c.in-Some.ensures c.in_ok-files.ensures c.left_by.ensures
