-- A directory that is new is set with one file.
use Rattle.std.proofs.Common.{[], Some, ap, sym, subst, ◌∙◌}
use Rattle.std.proofs.lemmas.Result.{on_ok_weaker}
use Rattle.mail_base.specs.Catalogs.{value_at, with_value, SetsValue}
use Rattle.spool_disk.specs.inner.Folders.{Sets}
use Rattle.spool_disk.proofs.Holding.{apart_after, set_first}
use Rattle.spool_disk.proofs.folders.Folders.begin.Goals as goal

pub invariant_of-self-2 : goal.invariant_of-self-2
invariant_of-self-2 c = apart_after c.set-2.result c.in_ok-copy.field-0 c.set.new.self c.self.inside.folders c.set-2.new.self c.set-2.ensures.ok c.set-2.ensures.err c.self.invariant

pub returns-clause-ok : goal.returns-clause-ok
returns-clause-ok c =
    let dir = c.args.dir.now in
    let old = c.self.inside.folders in
    let none = ap (value_at dir) c.self.view_is ∙ c.requires in
    let set : SetsValue c.args.name (Some c.args.bytes) [] c.set.new.self = subst (λ files. SetsValue c.args.name (Some c.args.bytes) files c.set.new.self) c.new-folder.ensures c.in_ok-set.ensures.ok in
    on_ok_weaker c.set-2.result (λ wrote. subst (λ files. Sets (dir, c.args.name) (Some c.args.bytes) files c.set-2.new.self) c.self.view_is (subst (Sets (dir, c.args.name) (Some c.args.bytes) old) (sym (wrote ∙ ap (λ name. with_value name c.set.new.self old) c.in_ok-copy.ensures)) (set_first dir c.args.name (Some c.args.bytes) c.set.new.self old none set))) c.set-2.ensures.ok
