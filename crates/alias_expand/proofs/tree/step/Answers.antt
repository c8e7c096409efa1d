use Rattle.std.proofs.Common.{sym, reverse}
use Rattle.std.proofs.lemmas.Option.{slice_get_within}
use Rattle.std.proofs.lemmas.Result.{err_from_is_err_and}
use Rattle.alias_expand.specs.inner.Costs.{deepest}
use Rattle.alias_expand.proofs.CostLemmas.{over_falls}
use Rattle.alias_expand.proofs.StepLemmas.{stops_map}
use Rattle.alias_expand.proofs.TreeLemmas.{fell, next_left, none_left, over, refused, went_on}
use Rattle.alias_expand.proofs.tree.step.Goals as goal

pub returns-in_default-clause-ok : goal.returns-in_default-clause-ok
returns-in_default-clause-ok g c =
    let a = c.args in
    λ end h. over a.site.now (g.F.Files.seen a.files.now).map a.frame (reverse a.stack.now.items) a.reading.now end (none_left a.frame (sym c.in_default.ensures)) h

pub returns-in_default-clause-falls : goal.returns-in_default-clause-falls
returns-in_default-clause-falls g c =
    let a = c.args in
    λ fits. over_falls (deepest a.site.now) a.frame (reverse a.stack.now.items) a.reading.now fits (none_left a.frame (sym c.in_default.ensures))

pub go_on-requires : goal.go_on-requires
go_on-requires g c = slice_get_within c.args.frame.members c.args.frame.next c.in-Some.next.now (sym c.in-Some.ensures)

pub returns-in_err-opened-clause-refused : goal.returns-in_err-opened-clause-refused
returns-in_err-opened-clause-refused g c =
    let a = c.args in
    let p = err_from_is_err_and c.from_residual.result c.from_residual.ensures.1 in
    rw (p.1, p.2) (stops_map _ (refused a.site.now (g.F.Files.seen a.files.now).map a.frame (reverse a.stack.now.items) c.in-Some.next.now a.reading.now (next_left a.frame c.in-Some.next.now (sym c.in-Some.ensures))) c.in_err-opened.ensures.comes)

pub returns-clause-ok : goal.returns-clause-ok
returns-clause-ok g c =
    let a = c.args in
    went_on a.site.now (g.F.Files.seen a.files.now).map a.frame (reverse a.stack.now.items) c.in-Some.next.now a.reading.now (next_left a.frame c.in-Some.next.now (sym c.in-Some.ensures)) c.in_ok-opened.opened c.member.new.reading c.in_ok-opened.ensures.comes (reverse c.go_on.new.stack.items) c.in_ok-go_on.ensures.stack

pub returns-clause-falls : goal.returns-clause-falls
returns-clause-falls g c =
    let a = c.args in
    fell a.site.now (g.F.Files.seen a.files.now).map a.frame (reverse a.stack.now.items) c.in-Some.next.now a.reading.now (next_left a.frame c.in-Some.next.now (sym c.in-Some.ensures)) c.in_ok-opened.opened c.member.new.reading c.in_ok-opened.ensures.comes c.in_ok-go_on.ensures.short (reverse c.go_on.new.stack.items) c.in_ok-go_on.ensures.stack
