use Rattle.std.proofs.Common.{◌≡◌, Some, ap, sym, subst, ◌∙◌}
use Rattle.std.specs.Prelude.{OnSome}
use Rattle.std.proofs.lemmas.Result.{on_ok_weaker, on_err_weaker}
use Rattle.mail_base.specs.Catalogs.{members_of, value_at, with_value}
use Rattle.mail_base.specs.Classes.{with_members}
use Rattle.mail_base.proofs.CatalogLemmas.{with_value_same}
use Rattle.mail_base.proofs.classes.Classes.extend.Goals as goal

pub returns-in-Some-clause-ok : goal.returns-in-Some-clause-ok
returns-in-Some-clause-ok c =
    let old = c.self.inside.classes in
    let new = c.get_mut.follows.lender c.extend.new.self in
    let wrote : new ≡ with_value c.args.name.now c.extend.new.self old = subst (λ lent. OnSome lent (new ≡ with_value c.args.name.now c.extend.new.self old)) c.in-Some.is (c.get_mut.follows.holds c.extend.new.self) in
    let was : Some c.in-Some.class.now ≡ value_at c.args.name.now old = c.in-Some.ensures.value in
    on_ok_weaker c.extend.result (λ grown. rw (← c.self.view_is) (wrote ∙ ap (λ members. with_value c.args.name.now members old) (grown ∙ ap (λ there. with_members (members_of there) c.args.more) was))) c.extend.ensures.ok

pub returns-in-Some-clause-err : goal.returns-in-Some-clause-err
returns-in-Some-clause-err c =
    let old = c.self.inside.classes in
    let new = c.get_mut.follows.lender c.extend.new.self in
    let wrote : new ≡ with_value c.args.name.now c.extend.new.self old = subst (λ lent. OnSome lent (new ≡ with_value c.args.name.now c.extend.new.self old)) c.in-Some.is (c.get_mut.follows.holds c.extend.new.self) in
    let was : Some c.in-Some.class.now ≡ value_at c.args.name.now old = c.in-Some.ensures.value in
    on_err_weaker c.extend.result (λ same. rw (← c.self.view_is) (wrote ∙ ap (λ members. with_value c.args.name.now members old) same ∙ with_value_same c.args.name.now c.in-Some.class.now old (sym was))) c.extend.ensures.err
