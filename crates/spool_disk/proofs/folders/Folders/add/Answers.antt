-- A file is put, or is hidden by one at its place.
use Rattle.std.proofs.Common.{◌≡◌, None, IsSome, sym, ◌∙◌}
use Rattle.std.proofs.lemmas.Result.{on_ok_weaker}
use Rattle.spool_disk.specs.inner.Folders.{held_at}
use Rattle.spool_disk.proofs.Filing.{added_nothing, added_one, seen_nowhere, seen_there}
use Rattle.spool_disk.proofs.folders.Folders.add.Goals as goal

pub returns-then-is_some : goal.returns-then-is_some
returns-then-is_some c files h =
    let there : IsSome (held_at c.args.self.now (c.args.file.now.dir, c.args.file.now.name)) = seen_there c.get.result _ c.get.ensures (sym c.is_some.ensures ∙ c.if-is_some.true) in
    added_nothing c.args.self.now c.args.file.now files there h

pub returns : goal.returns
returns c =
    let none : held_at c.args.self.now (c.args.file.now.dir, c.args.file.now.name) ≡ None = seen_nowhere c.get.result _ c.get.ensures (sym c.is_some.ensures ∙ c.if-is_some.false) in
    on_ok_weaker c.put.result (λ set files h. added_one c.args.self.now c.put.new.self c.args.file.now files none set h) c.put.ensures.ok
