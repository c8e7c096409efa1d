-- What stands is what the record makes of the first files, also with a call more.
use Rattle.std.proofs.Common.{sym, ◌∙◌, ap, subst}
use Rattle.spool_disk.specs.Changes.{after_all}
use Rattle.spool_disk.specs.inner.Folders.{Holds}
use Rattle.spool_disk.proofs.Recording.{after_more}
use Rattle.spool_disk.proofs.mem_spool.MemSpool.keep.Goals as goal

pub invariant_of-self : goal.invariant_of-self
invariant_of-self c =
    let start = c.self.inside.start in
    let past = c.self.inside.past.items in
    let held = c.in-Ok.ensures.files (after_all past start) c.self.invariant in
    subst (Holds c.record.new.files) (sym (ap (λ calls. after_all calls start) c.in-Ok.ensures.past ∙ after_more past (record { change = c.args.change; done = c.args.done }) start)) held
