-- The bounce has the first free id.
use Rattle.std.proofs.Common.{◌≤◌, Some, length, sym, ◌∙◌, subst}
use Rattle.queue_table.specs.Calls.{store}
use Rattle.queue_table.specs.Commands.{drafts_of}
use Rattle.queue_table.specs.inner.Planning.{control_by}
use Rattle.queue_table.proofs.PlanLemmas.{all_draftable, can_back, low, renamed, under_is}
use Rattle.queue_table.proofs.table.Table.plan_bounce.Goals as goal

pub plan_under-requires-clause-can : goal.plan_under-requires-clause-can
plan_under-requires-clause-can c =
    let old = c.args.self.now in
    let back = c.args.back in
    can_back old c.args.id (drafts_of old.terms back.message c.args.moment back.cuts) c.in_ok-parent.parent (Some c.new-bounce.result) (subst (λ n. n ≤ 999_999_999_999) (sym (c.new-bounce.ensures ∙ c.next.ensures)) (low c.lacks_ids.result (store old).next (length back.cuts) c.if-lacks_ids.false (rw (← c.len.ensures) c.lacks_ids.ensures) c.requires.cuts.some)) c.requires.open_at
    (all_draftable (store old).dirs old.terms back.message c.args.moment back.cuts c.requires.dirs c.requires.valid) c.in_ok-parent.ensures

pub returns-clause-is : goal.returns-clause-is
returns-clause-is c =
    let old = c.args.self.now in
    let back = c.args.back in
    let drafts = drafts_of old.terms back.message c.args.moment back.cuts in
    renamed (store c.plan_under.new.self) (store old).entries c.args.id c.new-bounce.result (store old).next drafts back.message.body c.plan_under.result (c.new-bounce.ensures ∙ c.next.ensures)
    (under_is (store c.plan_under.new.self) (store old).entries c.args.id drafts c.in_ok-parent.parent back.message.body (control_by (Some c.new-bounce.result)) c.plan_under.result c.in_ok-parent.ensures c.plan_under.ensures.is)
