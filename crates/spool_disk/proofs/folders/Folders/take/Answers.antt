-- The directory that is lent is set without the file.
use Rattle.std.proofs.Common.{◌≡◌, None, ap, sym, subst, ◌∙◌}
use Rattle.std.specs.Prelude.{OnSome}
use Rattle.std.specs.Option.{option_copied_mut}
use Rattle.mail_base.specs.Catalogs.{with_value}
use Rattle.spool_disk.specs.inner.Folders.{AreApart}
use Rattle.spool_disk.proofs.Holding.{apart_with, none_taken, set_within}
use Rattle.spool_disk.proofs.folders.Folders.take.Goals.{in-Some, in_default}
use Rattle.spool_disk.proofs.folders.Folders.take.Goals as goal

pub invariant_of-self : goal.invariant_of-self
invariant_of-self c =
    let old = c.self.inside.folders in
    elim c.match-get_mut.branch [
      | in-Some w ↦
          let new = c.get_mut.follows.lender w.remove.new.self in
          let wrote : new ≡ with_value c.args.dir.now w.remove.new.self old = subst (λ lent. OnSome lent (new ≡ with_value c.args.dir.now w.remove.new.self old)) w.in-Some.is (c.get_mut.follows.holds w.remove.new.self) in
          subst AreApart (sym (ap (λ i. i.folders) w.self-inside-is ∙ wrote)) (apart_with c.args.dir.now w.remove.new.self old c.self.invariant)
      | in_default w ↦ subst AreApart (sym (ap (λ i. i.folders) w.self-inside-is ∙ c.get_mut.follows.holds-at-none)) c.self.invariant
    ]

pub returns : goal.returns
returns c =
    let old = c.self.inside.folders in
    let seen = c.get_mut.ensures.value in
    elim c.match-get_mut.branch [
      | in-Some w ↦
          let new = c.get_mut.follows.lender w.remove.new.self in
          let wrote : new ≡ with_value c.args.dir.now w.remove.new.self old = subst (λ lent. OnSome lent (new ≡ with_value c.args.dir.now w.remove.new.self old)) w.in-Some.is (c.get_mut.follows.holds w.remove.new.self) in
          rw (← c.self.view_is, ap (λ i. i.folders) w.self-inside-is ∙ wrote) (set_within c.args.dir.now c.args.name.now None w.in-Some.folder.now w.remove.new.self old (ap option_copied_mut (sym w.in-Some.is) ∙ seen) w.remove.ensures)
      | in_default w ↦ rw (← c.self.view_is) (none_taken c.args.dir.now c.args.name.now old c.match-get_mut.self-inside.folders (sym seen ∙ ap option_copied_mut w.in_default.is) (ap (λ i. i.folders) w.self-inside-is ∙ c.get_mut.follows.holds-at-none))
    ]
