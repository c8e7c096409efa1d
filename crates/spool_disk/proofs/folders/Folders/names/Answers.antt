-- The names of the directory, sorted and each once, are its listing.
use Rattle.spool_disk.proofs.Filing.{names_are_listed}
use Rattle.spool_disk.proofs.folders.Folders.names.Goals as goal

pub returns : goal.returns
returns c = names_are_listed c.args.self.now c.args.dir.now c.in_ok-collected.field-0.items c.in_ok-sorted_names.field-0 c.in_ok-collected.ensures c.in_ok-sorted_names.ensures.ascending c.in_ok-sorted_names.ensures.same
