-- The directory that is lent is set with its files changed.
use Rattle.std.proofs.Common.{◌≡◌, Some, ap, sym, subst, ◌∙◌}
use Rattle.std.specs.Prelude.{OnSome}
use Rattle.std.proofs.lemmas.Result.{on_ok_weaker, on_err_weaker}
use Rattle.mail_base.specs.Catalogs.{with_value}
use Rattle.mail_base.proofs.CatalogLemmas.{with_value_same}
use Rattle.spool_disk.specs.inner.Folders.{AreApart}
use Rattle.spool_disk.proofs.Holding.{apart_with, set_within}
use Rattle.spool_disk.proofs.folders.Folders.put.Goals as goal

pub invariant_of-self : goal.invariant_of-self
invariant_of-self c =
    let old = c.self.inside.folders in
    let new = c.get_mut.follows.lender c.set.new.self in
    let wrote : new ≡ with_value c.args.dir.now c.set.new.self old = subst (λ lent. OnSome lent (new ≡ with_value c.args.dir.now c.set.new.self old)) c.in-Some.is (c.get_mut.follows.holds c.set.new.self) in
    subst AreApart (sym wrote) (apart_with c.args.dir.now c.set.new.self old c.self.invariant)

pub returns-in-Some-clause-ok : goal.returns-in-Some-clause-ok
returns-in-Some-clause-ok c =
    let old = c.self.inside.folders in
    let new = c.get_mut.follows.lender c.set.new.self in
    let wrote : new ≡ with_value c.args.dir.now c.set.new.self old = subst (λ lent. OnSome lent (new ≡ with_value c.args.dir.now c.set.new.self old)) c.in-Some.is (c.get_mut.follows.holds c.set.new.self) in
    on_ok_weaker c.set.result (λ set. rw (← c.self.view_is, wrote, ← c.in_ok-name.ensures, ← c.in_ok-bytes.ensures) (set_within c.args.dir.now c.in_ok-name.name (Some c.in_ok-bytes.bytes) c.in-Some.folder.now c.set.new.self old c.in-Some.ensures.value set)) c.set.ensures.ok

pub returns-in-Some-clause-err : goal.returns-in-Some-clause-err
returns-in-Some-clause-err c =
    let old = c.self.inside.folders in
    let new = c.get_mut.follows.lender c.set.new.self in
    let wrote : new ≡ with_value c.args.dir.now c.set.new.self old = subst (λ lent. OnSome lent (new ≡ with_value c.args.dir.now c.set.new.self old)) c.in-Some.is (c.get_mut.follows.holds c.set.new.self) in
    on_err_weaker c.set.result (λ same. rw (← c.self.view_is) (wrote ∙ ap (λ files. with_value c.args.dir.now files old) same ∙ with_value_same c.args.dir.now c.in-Some.folder.now old (sym c.in-Some.ensures.value))) c.set.ensures.err
