-- The new name is put, and the old one taken.
use Rattle.std.proofs.Common.{◌≡◌, ◌≢◌, Some, ap, sym, ◌∙◌, true≢false}
use Rattle.std.specs.Cmp.Lexicographic.{bytes_decides}
use Rattle.std.specs.Option.{option_copied}
use Rattle.spool_disk.specs.inner.Folders.{held_at}
use Rattle.spool_disk.proofs.Filing.{renamed_is_held, renamed_to_itself}
use Rattle.spool_disk.proofs.folders.Folders.rename.Goals as goal

pub returns-then-eq-clause-ok : goal.returns-then-eq-clause-ok
returns-then-eq-clause-ok c files h =
    let there : Some c.in_ok-bytes.bytes ≡ held_at c.args.self.now (c.args.dir.now, c.args.from.now) = ap (λ bytes. Some bytes) c.in_ok-bytes.ensures ∙ sym (ap option_copied c.in-Some.is) ∙ c.get.ensures in
    let same : c.args.from.now ≡ c.args.to.now = sym c.bytes-2.ensures ∙ (bytes_decides c.bytes-2.result.now c.bytes-3.result.now).0 (sym c.eq.ensures ∙ c.if-eq.true) ∙ c.bytes-3.ensures in
    renamed_to_itself c.args.dir.now c.args.from.now c.args.to.now c.in_ok-bytes.bytes c.args.self.now c.put.new.self files same there c.in_ok-put.ensures.ok h

pub returns-clause-ok : goal.returns-clause-ok
returns-clause-ok c files h =
    let there : Some c.in_ok-bytes.bytes ≡ held_at c.args.self.now (c.args.dir.now, c.args.from.now) = ap (λ bytes. Some bytes) c.in_ok-bytes.ensures ∙ sym (ap option_copied c.in-Some.is) ∙ c.get.ensures in
    let apart : c.args.from.now ≢ c.args.to.now = λ e. true≢false (sym ((bytes_decides c.bytes-2.result.now c.bytes-3.result.now).1 (c.bytes-2.ensures ∙ e ∙ sym c.bytes-3.ensures)) ∙ sym c.eq.ensures ∙ c.if-eq.false) in
    renamed_is_held c.args.dir.now c.args.from.now c.args.to.now c.in_ok-bytes.bytes c.args.self.now c.put.new.self c.take.new.self files apart there c.in_ok-put.ensures.ok c.take.ensures h
