-- The entry's next control says that a warning was sent.
use Rattle.queue_table.specs.Calls.{store}
use Rattle.queue_table.specs.Commands.{drafts_of}
use Rattle.queue_table.specs.Results.{with_warning}
use Rattle.queue_table.proofs.PlanLemmas.{all_draftable, can_warn, open_id, under_is}
use Rattle.queue_table.proofs.table.Table.plan_notice.Goals as goal

pub draft_warned-requires : goal.draft_warned-requires
draft_warned-requires c = record { entry = open_id c.args.self.now c.args.id c.requires.open_at }

pub plan_under-requires-clause-can : goal.plan_under-requires-clause-can
plan_under-requires-clause-can c =
    let old = c.args.self.now in
    let back = c.args.back in
    can_warn old c.args.id (drafts_of old.terms back.message c.args.moment back.cuts) c.in_ok-parent.parent c.requires.open_at
    (all_draftable (store old).dirs old.terms back.message c.args.moment back.cuts c.requires.dirs c.requires.valid) c.in_ok-parent.ensures

pub returns-clause-is : goal.returns-clause-is
returns-clause-is c =
    let old = c.args.self.now in
    let back = c.args.back in
    under_is (store c.plan_under.new.self) (store old).entries c.args.id (drafts_of old.terms back.message c.args.moment back.cuts) c.in_ok-parent.parent back.message.body with_warning c.plan_under.result c.in_ok-parent.ensures c.plan_under.ensures.is
