-- None of those before may be claimed.
use Rattle.std.proofs.Common.{◌∙◌, get_or, subst}
use Rattle.std.proofs.lemmas.List.{get_or_default}
use Rattle.std.proofs.lemmas.List.Elements.{All-nil}
use Rattle.mail_core.specs.inner.Nexts.{IsBusy, MayBegin}
use Rattle.mail_core.proofs.ListLemmas.{first_at, passed_all, passed_more}
use Rattle.mail_core.proofs.listing.first_listed.Goals as goal

pub returns-then-is_full : goal.returns-then-is_full
returns-then-is_full c = λ k d within j e there same. c.is_full.ensures.none c.if-is_full.true (get_or c.args.entries.now j e)

pub loop-place-init : goal.loop-place-init
loop-place-init c = All-nil (IsBusy c.args.waiting.now c.args.entries.now)

pub returns-then-may_begin : goal.returns-then-may_begin
returns-then-may_begin c =
    let id = c.index-ids-place.result in
    first_at c.args.waiting.now c.args.entries.now c.args.ids.now c.loop-place.place id c.loop-place-test.true
    (λ d. c.index-ids-place.is ∙ get_or_default c.args.ids.now c.loop-place.place id d c.loop-place-test.true) c.loop-place.invariant
    (subst (MayBegin c.args.waiting.now c.args.entries.now id) c.if-may_begin.true c.may_begin.ensures)

pub loop-place-preserved : goal.loop-place-preserved
loop-place-preserved c =
    let id = c.index-ids-place.result in
    passed_more c.args.waiting.now c.args.entries.now c.args.ids.now c.loop-place.place id c.loop-place-test.true
    (λ d. c.index-ids-place.is ∙ get_or_default c.args.ids.now c.loop-place.place id d c.loop-place-test.true) c.loop-place.invariant
    (subst (MayBegin c.args.waiting.now c.args.entries.now id) c.if-may_begin.false c.may_begin.ensures)

pub returns : goal.returns
returns c = passed_all c.args.waiting.now c.args.entries.now c.args.ids.now c.loop-place.place c.loop-place-test.false c.loop-place.invariant
