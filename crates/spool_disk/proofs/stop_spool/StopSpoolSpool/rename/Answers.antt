-- A call that is cut short is in the record, if there was memory for it.
use Rattle.std.proofs.Common.{◌∙◌, ap, false}
use Rattle.spool_disk.specs.declared.change.Change.TheVariants.{Rename}
use Rattle.spool_disk.specs.Stops.{past_after}
use Rattle.spool_disk.proofs.Stopping.{calls_cut}
use Rattle.spool_disk.proofs.stop_spool.StopSpoolSpool.rename.Goals as goal

pub returns-then-self-eq0-clause-call : goal.returns-then-self-eq0-clause-call
returns-then-self-eq0-clause-call c =
    let old = c.args.self.now.spool in
    let new = c.stop.new.self.spool in
    calls_cut old.start new.start old.past new.past (Rename c.args.dir.now c.args.from.now c.args.to.now) c.stop.new.self.stopped old.script.faults new.script.faults c.stop.ensures.start (c.stop.ensures.past ∙ ap (λ q. past_after old.past q false c.stop.new.self.stopped) c.in-Ok.ensures)
